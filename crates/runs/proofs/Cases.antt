-- The cases hold, by computing.
use Rattle.std.proofs.Common.{◌≡◌, ℕ, ◌<◌, ◌≤◌, List, [], ◌∷◌, length, map, All, Bool, true, Option, Some, None, Ok, Err, Result, refl, ap, sym, subst, arith}
use Rattle.std.specs.Prelude.{IfSome, nat_le}
use Rattle.std.specs.Option.{option_map}
use Rattle.std.proofs.lemmas.Bool.{leb-true}
use Rattle.std.proofs.lemmas.Option.{none-some, same_Some}
use Rattle.std.proofs.lemmas.List.Elements.{All-nil, All-cons}
use Rattle.grammar.proofs.Cases as grammar
use Rattle.grammar.proofs.OneAnswer.{same_head, same_tail}
use Rattle.grammar.specs.Answers as grammar_answers
use Rattle.grammar.specs.Reading.{limits, Answered}
use Rattle.grammar.specs.declared.fault.SyntaxFault.{SyntaxFault}
use Rattle.judge.specs.Phrases.{answer_of, steps_of, lines_left}
use Rattle.lexer.specs.Classes.{class_of}
use Rattle.lexer.specs.Items.{items, items_from}
use Rattle.lexer.specs.Words.{keyword, symbol, delimiter}
use Rattle.lines.specs.Answers.{cause_number}
use Rattle.lines.specs.declared.answer.Answer.{Answer}
use Rattle.lines.specs.declared.answer.Answer.TheVariants.{Unbound as unbound_answer}
use Rattle.lines.specs.declared.answer.Cause.{Cause}
use Rattle.lines.specs.declared.answer.Cause.TheVariants.{Code, Column, Reference, Repeated, Unfounded}
use Rattle.lines.specs.declared.line.Line.{Line}
use Rattle.reader.specs.declared.fault.ReadFault.TheVariants.{Syntax, Unbound}
use Rattle.rules.specs.Faults.{Right as RightOf, Sound, FirstFault}
use Rattle.rules.specs.Quantifiers.{Rule}
use Rattle.rules.specs.Statements.{type_judged, statement}
use Rattle.runs.specs.Calls.{PhraseCall, judging, PhraseDoes, not_read, judges, unsound}
use Rattle.runs.specs.Cases.{Case, Right, after_fault, from_none, cases}
use Rattle.scope.specs.Scope.{scope}
use Rattle.scope.specs.Scoped.{ScopedPhrase}
use Rattle.syntax.specs.Named.{NamedPhrase}

no_lines : (R : Rule) → Sound R []
no_lines R n l e = absurd (none-some _ e)

abbrev Told : Type 0
Told = Answer × ℕ × List Line

module _ (R : Rule) (room : ℕ) (p : PhraseCall) where
  abbrev told_scoped : Result (ScopedPhrase ℕ) ℕ → Told
  told_scoped (Ok q) = let o = judging R room [] p q in (answer_of o, steps_of o, lines_left [] o)
  told_scoped (Err byte) = (unbound_answer byte, 0, [])

  abbrev told_read : Result NamedPhrase SyntaxFault → Told
  told_read (Ok np) = told_scoped (scope [] np)
  told_read (Err f) = (grammar_answers.answer_of f, 0, [])

  abbrev told : Option Told
  told = option_map told_read (grammar.answer (limits p.nodes) (items p.source))

  abbrev Doing : Told → Type 0
  Doing t = PhraseDoes R room [] p t.0 t.1 t.2

  does_scoped : length p.source ≤ 65535 → (np : NamedPhrase) → Answered (limits p.nodes) (items p.source) (Ok np) → (r : Result (ScopedPhrase ℕ) ℕ)
      → scope [] np ≡ r → Doing (told_scoped r)
  does_scoped short np x (Ok q) e = judges q short (no_lines R) (np, x, e) refl refl refl
  does_scoped short np x (Err byte) e = not_read (Unbound (record { byte = byte })) short (no_lines R) (np, x, e) refl refl refl

  does_read : length p.source ≤ 65535 → (a : Result NamedPhrase SyntaxFault) → Answered (limits p.nodes) (items p.source) a → Doing (told_read a)
  does_read short (Ok np) x = does_scoped short np x (scope [] np) refl
  does_read short (Err f) x = not_read (Syntax f) short (no_lines R) x refl refl refl

  does : length p.source ≤ 65535 → (t : Told) → told ≡ Some t → Doing t
  does short t e = go (grammar.answer (limits p.nodes) (items p.source)) refl e
    where
      go : (o : Option (Result NamedPhrase SyntaxFault)) → grammar.answer (limits p.nodes) (items p.source) ≡ o → option_map told_read o ≡ Some t → Doing t
      go None e f = absurd (none-some _ f)
      go (Some a) e f = subst Doing (same_Some _ _ f) (does_read short a (grammar.answered (limits p.nodes) (items p.source) a e))

-- what a case says, and what is computed for it

abbrev shown : Option (List Line) → List Line → Option (List Line)
shown None lines = None
shown (Some x) lines = Some lines

abbrev Brief : Type 0
Brief = Answer × ℕ × Option (List Line)

abbrev brief : Option (List Line) → Told → Brief
brief left t = (t.0, t.1, shown left t.2)

abbrev Shown : Type 0
Shown = Bool × ℕ × Option Brief

abbrev said : Case → Shown
said c = (true, 0, Some (c.answer, c.steps, c.left))

abbrev computed : Case → Shown
computed c = (
  nat_le (length c.call.source) 65535,
  length c.found,
  option_map (brief c.left) (told c.rule c.room c.call),
)

if_shown : (o : Option (List Line)) (lines : List Line) → shown o lines ≡ o → IfSome o (λ l. lines ≡ l)
if_shown None lines e = tt
if_shown (Some x) lines e = same_Some _ _ e

right : (c : Case) → computed c ≡ said c → Right c
right c e = go (told c.rule c.room c.call) refl (ap (λ (s : Shown). s.2) e)
  where
    short : length c.call.source ≤ 65535
    short = leb-true (length c.call.source) 65535 (ap (λ (s : Shown). s.0) e)

    empty : (xs : List Line) → length xs ≡ 0 → xs ≡ []
    empty [] h = refl
    empty (x ∷ xs) h = absurd (let z : ⊥ = omega (arith, h) in z)

    none : c.found ≡ []
    none = empty c.found (ap (λ (s : Shown). s.1) e)

    go : (o : Option Told) → told c.rule c.room c.call ≡ o
        → option_map (brief c.left) o ≡ Some (c.answer, c.steps, c.left) → Right c
    go None f g = absurd (none-some _ g)
    go (Some t) f g =
        let same = same_Some _ _ g in
        let d = does c.rule c.room c.call short t f in (
          t.2,
          subst (λ xs. PhraseDoes c.rule c.room xs c.call c.answer c.steps t.2) (sym none)
              (subst (λ n. PhraseDoes c.rule c.room [] c.call c.answer n t.2) (ap (λ (x : Brief). x.1) same)
              (subst (λ a. PhraseDoes c.rule c.room [] c.call a t.1 t.2) (ap (λ (x : Brief). x.0) same) d)),
          if_shown c.left t.2 (ap (λ (x : Brief). x.2) same),
        )

computes : map computed from_none ≡ map said from_none
unfolding statement items_from class_of keyword symbol delimiter
computes = refl

all_right : (cs : List Case) → map computed cs ≡ map said cs → All Right cs
all_right [] e = All-nil Right
all_right (c ∷ cs) e = All-cons Right c cs (right c (same_head e)) (all_right cs (same_tail e))

-- the first line names itself

abbrev first : Line
first = record { code = 51; c1 = 1; c2 = 1; c3 = 1; c4 = 0; c5 = 0; c6 = 0; c7 = 0 }

first_at_fault : FirstFault after_fault.rule after_fault.found 1 Reference
unfolding statement
first_at_fault = (0, _, refl, refl, no_lines after_fault.rule, (λ h. let (l, e, i, j) = h.0 in none-some _ e, before))
  where
    before : (d : Cause) → cause_number d < 3 → RightOf after_fault.rule [] first (type_judged 1 1 1 0) d
    before Code lt = tt
    before Column lt = (refl, (refl, (refl, tt)))
    before Reference lt = absurd (let z : ⊥ = omega (arith, lt) in z)
    before Repeated lt = absurd (let z : ⊥ = omega (arith, lt) in z)
    before Unfounded lt = absurd (let z : ⊥ = omega (arith, lt) in z)

fault_right : Right after_fault
fault_right = (after_fault.found, unsound 1 Reference (omega arith) first_at_fault refl refl refl, refl)

pub cases_right : All Right cases
cases_right = All-cons Right after_fault from_none fault_right (all_right from_none computes)
