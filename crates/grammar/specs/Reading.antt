-- The answer to a list of items: the phrase that they are, or why they are none.
use Rattle.std.specs.Prelude.{◌≡◌, ℕ, suc, ◌<◌, List, [], ◌∷◌, ◌++◌, Result, Ok, Err}
use Rattle.lexer.specs.Items.{Item}
use Rattle.lexer.specs.declared.fault.LexicalFault.{LexicalFault}
use Rattle.lexer.specs.declared.token.Token.{Token}
use Rattle.lexer.specs.declared.token.Word.TheVariants.{End}
use Rattle.syntax.specs.Named.{NamedPhrase}
use Rattle.grammar.specs.Notation.{phrase, on, part}
use Rattle.grammar.specs.Derives.{Event, began, ended, Meets}
use Rattle.grammar.specs.Written.{WrittenPhrase}
use Rattle.grammar.specs.declared.fault.SyntaxFault.{SyntaxFault}
use Rattle.grammar.specs.declared.fault.SyntaxFault.TheVariants.{Lexical, Unexpected, TooDeep, TreeFull}

-- how deep types and terms may stand, and how many places the tree table has
pub record Limits : Type 0 where
  pub levels : ℕ
  pub places : ℕ

-- the limits of sources, for a tree table of n places
abbrev pub limits : (places : ℕ) → Limits
limits n = record { levels = 128; places = n }

-- how many places are taken after these events, if c are taken before them
abbrev pub count : (c : ℕ) → List Event → ℕ
count c [] = c
count c (began depth byte ∷ es) = count c es
count c (ended byte ∷ es) = count (suc c) es

-- the event is within the limits, if c places are taken before it
abbrev pub Fits : Limits → (c : ℕ) → Event → Type 0
Fits l c (began depth byte) = depth < l.levels
Fits l c (ended byte) = c < l.places

-- each of the events is within the limits, if c places are taken before them
abbrev pub Within : Limits → (c : ℕ) → List Event → Type 0
Within l c [] = Unit {0}
Within l c (e ∷ es) = Fits l c e × Within l (count c (e ∷ [])) es

-- some phrase begins with these items
abbrev pub Begins : List Item → Type 0
Begins u = (v : List Item) × (p : NamedPhrase) × WrittenPhrase (u ++ v) p

-- i is the first item with which what stands up to it begins no phrase
abbrev pub FirstWrong : List Item → Item → Type 0
FirstWrong items i = (u v : List Item) × (items ≡ u ++ i ∷ v) × Begins u × (Begins (u ++ i ∷ []) → ⊥)

-- reading the items meets these events first
abbrev pub Met : List Item → List Event → Type 0
Met items es = Meets 0 0 (part on phrase ∷ []) items es

-- no limit is passed as far as the items can be read
abbrev pub NoneBeyond : Limits → List Item → Type 0
NoneBeyond l items = (es : List Event) → Met items es → Within l 0 es

-- e is the first event beyond the limits
abbrev pub FirstBeyond : Limits → List Item → Event → Type 0
FirstBeyond l items e = (es : List Event) × Met items (es ++ e ∷ []) × Within l 0 es × (Fits l (count 0 es) e → ⊥)

-- The answer to the items: they are a phrase within the limits, and this is it; or an item is the first wrong one, and no limit is passed before;
-- or a limit is, and the first event beyond it has this first byte.
abbrev pub Answered : Limits → List Item → Result NamedPhrase SyntaxFault → Type 0
Answered l items (Ok p) = WrittenPhrase items p × NoneBeyond l items
Answered l items (Err (Lexical f)) = FirstWrong items (Err f) × NoneBeyond l items
Answered l items (Err (Unexpected k)) = (t : Token) × (t.byte ≡ k) × FirstWrong items (Ok t) × NoneBeyond l items
Answered l items (Err (TooDeep k)) = (depth : ℕ) × FirstBeyond l items (began depth k)
Answered l items (Err (TreeFull k)) = FirstBeyond l items (ended k)

-- the items of a source: tokens, and then its end, or an item that is no token, and behind it anything
pub data Ended : List Item → Type 0 where
  at_end : {t : Token} → t.word ≡ End → Ended (Ok t ∷ [])
  at_fault : {f : LexicalFault} {ts : List Item} → Ended (Err f ∷ ts)
  later : {t : Token} {ts : List Item} → (t.word ≡ End → ⊥) → Ended ts → Ended (Ok t ∷ ts)
