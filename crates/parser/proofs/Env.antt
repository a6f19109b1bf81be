-- Bindings are read one after another: what the bindings still to come give, the whole environment gives.
use Rattle.std.proofs.Common.{◌≡◌, ℕ, ◌≤◌, [], ◌∷◌, length, Result, Ok, Err, refl}
use Rattle.lexer.specs.Coming.{to_come, used}
use Rattle.lexer.specs.declared.name.Name.{Name}
use Rattle.lexer.specs.declared.token.Token.{Token}
use Rattle.lexer.specs.declared.token.Word.TheVariants.{Name as Named}
use Rattle.lexer.specs.declared.tokens.Tokens.{Tokens}
use Rattle.grammar.specs.Notation.{Val, Kind, env, binding_rest, own, on, part, whole}
use Rattle.grammar.specs.Derives.{next_byte}
use Rattle.grammar.specs.declared.fault.SyntaxFault.{SyntaxFault}
use Rattle.grammar.proofs.Steps.{reads_part, reads_done}
use Rattle.grammar.proofs.Words.{is_name}
use Rattle.parser.specs.Parsing.{items, nodes, limits, Looked, Parsed, LaidEnv}
use Rattle.parser.specs.declared.parser.Parser.{Parser}
use Rattle.parser.proofs.Taking.{part_own, stops_own, told_first}
use Rattle.parser.proofs.Told.{Told, told, stopped}

-- what reading an environment promises
abbrev pub EnvParsed : (old new : Parser) → Result (Unit {0}) SyntaxFault → Type 0
EnvParsed old new r = Parsed env 0 (next_byte 0 (items old)) old new (λ v _. LaidEnv (nodes old) (nodes new) v) r

-- an environment that is read from `first` on is read up to p
pub record GoesOn (first p : Parser) : Type 0 where
  pub limits : limits p ≡ limits first
  pub shorter : length (items p) ≤ length (items first)
  pub rest : (new : Parser) (r : Result (Unit {0}) SyntaxFault) → EnvParsed p new r → EnvParsed first new r

-- the last part of a row, with a first byte of its own, and the answer to it is what is answered
pub told_own_rest : {X : Type 0} {K M : Kind} {d q : ℕ} {f : Val M → Val K} (p p1 : Parser) {Laid : Val K → X → Type 0} (Laid1 : Val M → X → Type 0)
    (r : Result X SyntaxFault) → Parsed M d (next_byte 0 (items p)) p p1 Laid1 r → ((u : Val M) (x : X) → Laid1 u x → Laid (f u) x)
    → Told K d q (part own M ∷ []) f p p1 Laid r
told_own_rest {q = q} p p1 Laid1 (Ok x) h l = told (reads_part (part_own q h.1) reads_done) (l h.0 x h.2)
told_own_rest p p1 Laid1 (Err e) h l = stopped (stops_own h)

-- the name of a binding is used
pub told_binding : (p new : Parser) (w : Name) (t : Token) (next : Tokens) (r : Result (Unit {0}) SyntaxFault) → Looked (items p) (Ok t) → t.word ≡ Named w
    → to_come next ≡ used (items p)
    → Told env 0 (next_byte 0 (items p)) (part on binding_rest ∷ whole ∷ part own env ∷ []) (λ b E. b w ∷ E) (record { tokens = next; tree = p.tree }) new
    (λ v _. LaidEnv (nodes p) (nodes new) v) r
    → EnvParsed p new r
told_binding p new w t next r h i u z =
    told_first env w 0 (next_byte 0 (items p)) p new (λ v _. LaidEnv (nodes p) (nodes new) v) r (Named w) t next h i refl u (λ b. refl) (is_name t i) z
