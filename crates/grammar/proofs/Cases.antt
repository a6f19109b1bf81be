-- The cases hold, by computing.
use Rattle.std.proofs.Common.{◌≡◌, ◌+◌, ◌*◌, List, [], ◌∷◌, length, map, All, Option, Some, None, Result, Ok, Err, refl, subst}
use Rattle.std.proofs.lemmas.Option.{none-some, same_Some}
use Rattle.std.proofs.lemmas.List.Elements.{All-nil, All-cons}
use Rattle.lexer.specs.Items.{Item}
use Rattle.syntax.specs.Named.{NamedPhrase}
use Rattle.grammar.specs.Notation.{phrase, Mode, part}
use Rattle.grammar.specs.Reading.{Limits, Answered}
use Rattle.grammar.specs.Cases.{Case, cases, Right}
use Rattle.grammar.specs.declared.fault.SyntaxFault.{SyntaxFault}
use Rattle.grammar.proofs.OneAnswer.{spelled_answered, same_head, same_tail}
use Rattle.grammar.proofs.Read.{Outcome, got, stop, spent, read, Told, told}
use Rattle.grammar.proofs.Stopped.{stopped}

abbrev answer_of : Outcome NamedPhrase → Option (Result NamedPhrase SyntaxFault)
answer_of (got [] n p) = Some (Ok p)
answer_of (got (i ∷ ts) n p) = None
answer_of (stop e) = Some (Err e)
answer_of spent = None

abbrev pub answer : Limits → List Item → Option (Result NamedPhrase SyntaxFault)
answer l ts = answer_of (read (3 * length ts + 3) l phrase 0 0 0 (part Mode.on phrase ∷ []) (λ p. p) ts)

answers : map (λ (c : Case). answer c.limits c.items) cases ≡ map (λ (c : Case). Some c.answer) cases
answers = refl

pub answered : (l : Limits) (ts : List Item) (a : Result NamedPhrase SyntaxFault) → answer l ts ≡ Some a → Answered l ts a
answered l ts a e = go (read (3 * length ts + 3) l phrase 0 0 0 (part Mode.on phrase ∷ []) (λ p. p) ts) (told (3 * length ts + 3) l phrase 0 0 0 (part Mode.on phrase ∷ []) (λ p. p) ts) e
  where
    go : (o : Outcome NamedPhrase) → Told l phrase 0 0 0 (part Mode.on phrase ∷ []) (λ p. p) ts o → answer_of o ≡ Some a → Answered l ts a
    go (got [] n p) h e = subst (Answered l ts) (same_Some _ a e) (spelled_answered l ts p h.derived h.within)
    go (got (i ∷ r) n p) h e = absurd (none-some a e)
    go (stop x) h e = subst (Answered l ts) (same_Some _ a e) (stopped l ts h)
    go spent h e = absurd (none-some a e)

all_answered : (cs : List Case) → map (λ (c : Case). answer c.limits c.items) cs ≡ map (λ (c : Case). Some c.answer) cs → All Right cs
all_answered [] e = All-nil Right
all_answered (c ∷ cs) e = All-cons Right c cs (answered c.limits c.items c.answer (same_head e)) (all_answered cs (same_tail e))

pub right : All Right cases
right = all_answered cases answers
