-- Lexemes and words as the lexicon has them, and as they are read.
use Rattle.std.proofs.Common.{◌≡◌, ℕ, suc, ◌+◌, ◌<◌, ◌≤◌, Bool, true, false, List, [], ◌∷◌, ◌++◌, length, take, drop, get_or, arith, refl, ◌∙◌, ap, ap₂, sym, inl, inr, Ok, Err, Some, None, Option, All, cond, ◌-◌, length-drop, drop-cons}
use Rattle.std.specs.Prelude.{◌⊎◌, IsTrue}
use Rattle.std.specs.List.{prefix_len}
use Rattle.std.proofs.lemmas.Grind.{common_steps}
use Rattle.std.proofs.lemmas.Bool.{cases_lt}
use Rattle.std.proofs.lemmas.List.{take-append-drop, get_or-take}
use Rattle.std.proofs.lemmas.List.Sums.{prefix_len_passes, prefix_len_stops}
use Rattle.std.proofs.lemmas.List.Folds.{length-prefix_len}
use Rattle.std.proofs.Math.Seq.{drop-append_seam, take-append_seam}
use Rattle.lexer.specs.Classes.{class_of, is_blank, begins_none, in_word, in_symbol}
use Rattle.lexer.specs.Reading.{run, behind_run, word_at, word_in, word_or, keyword_or_name, or_else, name_word}
use Rattle.lexer.specs.Lexicon.{BeginsIn, LongestRun, word_lexeme, symbol_lexeme, delimiter_lexeme, WordOf, a_keyword, a_name, a_symbol, a_delimiter, the_end}
use Rattle.lexer.specs.Faults.{WordFault, no_symbol, long_name, no_lexeme}
use Rattle.lexer.specs.Words.{keyword, symbol}
use Rattle.lexer.specs.Names.{kept, name_spelled}
use Rattle.lexer.specs.declared.class.Class.{Class}
use Rattle.lexer.specs.declared.class.Class.TheVariants.{Blank, Letter, Digit, Special, Delimiter, Reserved, Illegal}
use Rattle.lexer.specs.declared.fault.LexicalFault.{LexicalFault}
use Rattle.lexer.specs.declared.fault.LexicalFault.TheVariants.{NoToken, LongName}
use Rattle.lexer.specs.declared.token.Word.{Word}
use Rattle.lexer.specs.declared.token.Word.TheVariants.{Name as named, End}
use Rattle.lexer.proofs.Skipping.{not_true, not_false}

abbrev of_them : (Class → Bool) → ℕ → Bool
of_them classes b = classes (class_of b)

run_length : (classes : Class → Bool) (front rest : List ℕ) → All (λ b. IsTrue (classes (class_of b))) front → (BeginsIn classes rest → ⊥)
    → prefix_len (of_them classes) (front ++ rest) ≡ length front
run_length classes [] [] all stop = refl
run_length classes [] (b ∷ rest) all stop = let f : of_them classes b ≡ false = not_true _ (λ t. stop (b, rest, refl, t)) in rw f
run_length classes (b ∷ front) rest all stop =
    let t : of_them classes b ≡ true = all 0 0 (omega arith) in
    let more : All (λ (c : ℕ). IsTrue (classes (class_of c))) front = λ k d l. all (suc k) d (omega arith) in
    let n = run_length classes front rest more stop in
    rw t (omega arith)

run_is : (classes : Class → Bool) (bs front rest : List ℕ) → LongestRun classes bs front rest → (run classes bs ≡ front) × (behind_run classes bs ≡ rest)
run_is classes bs front rest r =
    let n : prefix_len (of_them classes) bs ≡ length front = ap (prefix_len (of_them classes)) r.parts ∙ run_length classes front rest r.of_them r.longest in
    let t : run classes bs ≡ front = ap₂ (λ (k : ℕ) (xs : List ℕ). take k xs) n r.parts ∙ take-append_seam front rest in
    (t, ap₂ (λ (k : ℕ) (xs : List ℕ). drop k xs) (ap length t) r.parts ∙ drop-append_seam front rest)

stops : (p : ℕ → Bool) (bs : List ℕ) (b : ℕ) (rest : List ℕ) → drop (prefix_len p bs) bs ≡ b ∷ rest → p b ≡ true → ⊥
stops p bs b rest e t =
    let n = prefix_len p bs in
    let l : length bs - n ≡ length (b ∷ rest) = sym (length-drop n bs) ∙ ap length e in
    let h : n < length bs = omega arith in
    let c : b ∷ rest ≡ get_or bs n 0 ∷ drop (suc n) bs = sym e ∙ drop-cons bs n 0 h in
    let q : b ≡ get_or bs n 0 = cc in
    not_false (sym (prefix_len_stops p bs 0 h) ∙ ap p (sym q) ∙ t)

behind_is : (classes : Class → Bool) (bs : List ℕ) → behind_run classes bs ≡ drop (prefix_len (of_them classes) bs) bs
behind_is classes bs = ap (λ (n : ℕ). drop n bs) (length-prefix_len (of_them classes) bs)

run_found : (classes : Class → Bool) (bs : List ℕ) → LongestRun classes bs (run classes bs) (behind_run classes bs)
run_found classes bs = record {
  parts = sym (ap (λ (xs : List ℕ). run classes bs ++ xs) (behind_is classes bs) ∙ take-append-drop (prefix_len (of_them classes) bs) bs);
  of_them = λ k d l.
      let n : k < prefix_len (of_them classes) bs = omega (arith, length-prefix_len (of_them classes) bs) in
      ap (of_them classes) (get_or-take _ bs k d n) ∙ prefix_len_passes (of_them classes) bs k d n;
  longest = λ h. stops (of_them classes) bs h.0 h.1 (sym (behind_is classes bs) ∙ h.2) h.3;
}

run_uses : (classes : Class → Bool) (b : ℕ) (bs : List ℕ) → classes (class_of b) ≡ true → length (behind_run classes (b ∷ bs)) < length (b ∷ bs)
run_uses classes b bs t =
    let n : prefix_len (of_them classes) (b ∷ bs) ≡ 1 + prefix_len (of_them classes) bs = ap (λ (c : Bool). cond c (1 + prefix_len (of_them classes) bs) 0) t in
    let e = behind_is classes (b ∷ bs) in
    let l : length (behind_run classes (b ∷ bs)) ≡ length (b ∷ bs) - prefix_len (of_them classes) (b ∷ bs) = ap length e ∙ length-drop (prefix_len (of_them classes) (b ∷ bs)) (b ∷ bs) in
    omega arith

-- the word by the class of the first byte
by_class : (byte b : ℕ) (bs : List ℕ) (k : Class) → class_of b ≡ k → word_at byte (b ∷ bs) ≡ word_in k byte b bs
by_class byte b bs k e = ap (λ (c : Class). word_in c byte b bs) e

found_word : (fault : LexicalFault) (o : Option Word) (w : Word) (r rest : List ℕ) → o ≡ Some w → r ≡ rest → word_or fault o r ≡ Ok (record { word = w; rest = rest })
found_word fault o w r rest e q = ap₂ (word_or fault) e q

keyword_first : (front : List ℕ) (w : Word) → keyword front ≡ Some w → keyword_or_name front ≡ Some w
keyword_first front w e = ap (λ o. or_else o (name_word (name_spelled front))) e

name_next : (front : List ℕ) → keyword front ≡ None → length front ≤ 14 → keyword_or_name front ≡ Some (named (kept front))
name_next front e l = ap (λ o. or_else o (name_word (name_spelled front))) e ∙ grind (arith, common_steps)

name_too_long : (front : List ℕ) → keyword front ≡ None → 14 < length front → keyword_or_name front ≡ None
name_too_long front e l = ap (λ o. or_else o (name_word (name_spelled front))) e ∙ grind (arith, common_steps)

pub word-read : {bs rest : List ℕ} {w : Word} → WordOf bs w rest → (byte : ℕ) → word_at byte bs ≡ Ok (record { word = w; rest = rest })
word-read (a_keyword {w = w} (word_lexeme {b = b} {bs = bs} {run = front} {rest = rest} k r) e) byte =
    let s = run_is in_word (b ∷ bs) front rest r in
    by_class byte b bs Letter k ∙ found_word _ _ w _ rest (ap keyword_or_name s.0 ∙ keyword_first front w e) s.1
word-read (a_name (word_lexeme {b = b} {bs = bs} {run = front} {rest = rest} k r) e l) byte =
    let s = run_is in_word (b ∷ bs) front rest r in
    by_class byte b bs Letter k ∙ found_word _ _ _ _ rest (ap keyword_or_name s.0 ∙ name_next front e l) s.1
word-read (a_symbol {w = w} (symbol_lexeme {b = b} {bs = bs} {run = front} {rest = rest} k r) e) byte =
    let s = run_is in_symbol (b ∷ bs) front rest r in
    by_class byte b bs Special k ∙ found_word _ _ w _ rest (ap symbol s.0 ∙ e) s.1
word-read (a_delimiter (delimiter_lexeme {b = b} {rest = rest} k)) byte = by_class byte b rest Delimiter k
word-read the_end byte = refl

no_word : (byte b : ℕ) (bs : List ℕ) (k : Class) → IsTrue (begins_none k) → word_in k byte b bs ≡ Err (NoToken byte)
no_word byte b bs Blank t = refl
no_word byte b bs Letter t = absurd (not_false t)
no_word byte b bs Digit t = refl
no_word byte b bs Special t = absurd (not_false t)
no_word byte b bs Delimiter t = absurd (not_false t)
no_word byte b bs Reserved t = refl
no_word byte b bs Illegal t = refl

pub fault-read : {byte : ℕ} {bs : List ℕ} {fault : LexicalFault} → WordFault byte bs fault → word_at byte bs ≡ Err fault
fault-read {byte = byte} (no_symbol (symbol_lexeme {b = b} {bs = bs} {run = front} {rest = rest} k r) e) =
    let s = run_is in_symbol (b ∷ bs) front rest r in
    by_class byte b bs Special k ∙ ap (λ o. word_or (NoToken byte) o (behind_run in_symbol (b ∷ bs))) (ap symbol s.0 ∙ e)
fault-read {byte = byte} (long_name (word_lexeme {b = b} {bs = bs} {run = front} {rest = rest} k r) e l) =
    let s = run_is in_word (b ∷ bs) front rest r in
    by_class byte b bs Letter k ∙ ap (λ o. word_or (LongName byte) o (behind_run in_word (b ∷ bs))) (ap keyword_or_name s.0 ∙ name_too_long front e l)
fault-read {byte = byte} (no_lexeme {b = b} {bs = bs} k) = no_word byte b bs (class_of b) k

-- one of the two is so wherever space has ended
abbrev pub WordEnds : (byte : ℕ) → List ℕ → Type 0
WordEnds byte bs = ((w : Word) × (rest : List ℕ) × WordOf bs w rest × ((w ≡ End) ⊎ (length rest < length bs))) ⊎ ((fault : LexicalFault) × WordFault byte bs fault)

word_ends_letter : (byte b : ℕ) (bs : List ℕ) → class_of b ≡ Letter → (o : Option Word) → keyword (run in_word (b ∷ bs)) ≡ o
    → (length (run in_word (b ∷ bs)) < 15) ⊎ (15 ≤ length (run in_word (b ∷ bs))) → WordEnds byte (b ∷ bs)
word_ends_letter byte b bs k (Some w) e l = inl (w, behind_run in_word (b ∷ bs), a_keyword (word_lexeme k (run_found in_word (b ∷ bs))) e, inr (run_uses in_word b bs (ap in_word k)))
word_ends_letter byte b bs k None e (inl l) =
    inl (_, behind_run in_word (b ∷ bs), a_name (word_lexeme k (run_found in_word (b ∷ bs))) e (omega arith), inr (run_uses in_word b bs (ap in_word k)))
word_ends_letter byte b bs k None e (inr l) = inr (_, long_name (word_lexeme k (run_found in_word (b ∷ bs))) e (omega arith))

word_ends_special : (byte b : ℕ) (bs : List ℕ) → class_of b ≡ Special → (o : Option Word) → symbol (run in_symbol (b ∷ bs)) ≡ o → WordEnds byte (b ∷ bs)
word_ends_special byte b bs k (Some w) e = inl (w, behind_run in_symbol (b ∷ bs), a_symbol (symbol_lexeme k (run_found in_symbol (b ∷ bs))) e, inr (run_uses in_symbol b bs (ap in_symbol k)))
word_ends_special byte b bs k None e = inr (_, no_symbol (symbol_lexeme k (run_found in_symbol (b ∷ bs))) e)

word_ends_in : (byte b : ℕ) (bs : List ℕ) (k : Class) → class_of b ≡ k → is_blank k ≡ false → WordEnds byte (b ∷ bs)
word_ends_in byte b bs Blank e n = absurd (not_false (sym n))
word_ends_in byte b bs Letter e n = word_ends_letter byte b bs e (keyword (run in_word (b ∷ bs))) refl (cases_lt _ 15)
word_ends_in byte b bs Digit e n = inr (_, no_lexeme (ap begins_none e))
word_ends_in byte b bs Special e n = word_ends_special byte b bs e (symbol (run in_symbol (b ∷ bs))) refl
word_ends_in byte b bs Delimiter e n = inl (_, bs, a_delimiter (delimiter_lexeme e), inr (omega arith))
word_ends_in byte b bs Reserved e n = inr (_, no_lexeme (ap begins_none e))
word_ends_in byte b bs Illegal e n = inr (_, no_lexeme (ap begins_none e))

pub word_ends : (byte : ℕ) (bs : List ℕ) → (BeginsIn is_blank bs → ⊥) → WordEnds byte bs
word_ends byte [] n = inl (End, [], the_end, inl refl)
word_ends byte (b ∷ bs) n = word_ends_in byte b bs (class_of b) refl (not_true _ (λ t. n (b, bs, refl, t)))
