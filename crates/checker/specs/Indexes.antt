-- An index of lines by their hash: for each slot the latest line in it, and for each line the latest before it in the same slot.
use Rattle.std.specs.Prelude.{◌≡◌, ℕ, suc, ◌+◌, ◌*◌, ◌^◌, ◌%◌, ◌<◌, ◌≤◌, List, length, ◌≢◌, slice_index, vec_len, vec_items}
use Rattle.std.specs.Hash.{le_bytes}
use Rattle.std.specs.Hash.FoldHasher
use Rattle.checker.specs.Decide.{at}
use Rattle.checker.specs.declared.index.Index.{Index}
use Rattle.lines.specs.declared.line.Line.{Line}

-- four numbers of 16 bits as one
abbrev pub four : (a b c d : ℕ) → ℕ
four a b c d = a + b * 2 ^ 16 + c * 2 ^ 32 + d * 2 ^ 48

-- the library's hash of these two
unfoldable pub hash : Line → ℕ
hash l =
    FoldHasher.finish (FoldHasher.write (FoldHasher.write FoldHasher.initial (le_bytes 8 (four l.code l.c1 l.c2 l.c3))) (le_bytes 8 (four l.c4 l.c5 l.c6 l.c7)))

abbrev pub slot_of : (size : ℕ) → Line → ℕ
slot_of size l = hash l % size

-- h is the latest of the first m lines in slot b, or 0 where there is none
pub record Latest (lines : List Line) (size b m h : ℕ) : Type 0 where
  pub within : h ≤ m
  pub there : 1 ≤ h → slot_of size (at lines h) ≡ b
  pub latest : (k : ℕ) → h < k → k ≤ m → slot_of size (at lines k) ≢ b

-- just these lines are in the index
pub record Indexed (lines : List Line) (size : ℕ) (heads next : List ℕ) : Type 0 where
  pub slots : 0 < size
  pub sized : length heads ≡ size
  pub linked : length next ≡ length lines
  pub head : (b : ℕ) → b < size → Latest lines size b (length lines) (slice_index heads b)
  pub link : (m : ℕ) → m < length lines → Latest lines size (slot_of size (at lines (suc m))) m (slice_index next m)

abbrev pub IndexOf : List Line → Index → Type 0
IndexOf lines i = Indexed lines (vec_len i.heads) (vec_items i.heads) (vec_items i.next)
