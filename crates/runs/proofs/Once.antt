-- A phrase call has one answer.
use Rattle.std.proofs.Common.{◌≡◌, ℕ, zero, suc, ◌<◌, ◌≤◌, List, length, take, Option, Some, None, Ok, Err, Result, refl, ap, ap₂, sym, ◌∙◌, subst, ⊎_elim, arith}
use Rattle.grammar.specs.Reading.{limits, Answered, Ended}
use Rattle.grammar.specs.declared.fault.SyntaxFault.{SyntaxFault}
use Rattle.grammar.proofs.Coming.{ordinary_ended}
use Rattle.grammar.proofs.Laws.{one_answer}
use Rattle.judge.specs.Phrases.{answer_of, steps_of, lines_left}
use Rattle.lexer.specs.Items.{items}
use Rattle.lexer.proofs.LexiconItems.{ordinary-from}
use Rattle.lines.specs.Answers.{cause_number}
use Rattle.lines.specs.Stores.{numbered}
use Rattle.lines.specs.declared.answer.Answer.{Answer}
use Rattle.lines.specs.declared.answer.Answer.TheVariants.{Granted, SourceTooLong, Unsound, Unbound as unbound_answer}
use Rattle.lines.specs.declared.answer.Cause.{Cause}
use Rattle.lines.specs.declared.answer.Cause.TheVariants.{Code, Column, Reference, Repeated, Unfounded}
use Rattle.lines.specs.declared.line.Line.{Line}
use Rattle.reader.specs.Reads.{ReadAs, answer_to}
use Rattle.reader.specs.declared.fault.ReadFault.{ReadFault}
use Rattle.reader.specs.declared.fault.ReadFault.TheVariants.{Syntax, Unbound}
use Rattle.rules.specs.Faults.{Right, Sound, AtFault, FirstFault, Fine}
use Rattle.rules.specs.Quantifiers.{Rule}
use Rattle.rules.specs.Statements.{Statement, statement}
use Rattle.rules.proofs.Whole.{numbered_within}
use Rattle.runs.specs.Calls.{PhraseCall, check, judging, Does, PhraseDoes, too_long, unsound, not_read, judges}
use Rattle.runs.specs.Law.{OneAnswer}
use Rattle.scope.specs.Definitions.{Definition, definitions}
use Rattle.scope.specs.Scope.{scope}
use Rattle.scope.specs.Scoped.{ScopedPhrase}
use Rattle.std.proofs.lemmas.Bool.{cases_lt, cases_order}
use Rattle.std.proofs.lemmas.List.{take-take}
use Rattle.std.proofs.lemmas.Option.{same_Some}
use Rattle.syntax.specs.Named.{NamedPhrase}

-- a line is not both fine and at fault, and at fault for one cause

same_cause : (c d : Cause) → cause_number c ≡ cause_number d → c ≡ d
same_cause c d e = from_numbers c ∙ ap cause_by e ∙ sym (from_numbers d)
  where
    cause_by : ℕ → Cause
    cause_by (suc zero) = Code
    cause_by (suc (suc zero)) = Column
    cause_by (suc (suc (suc zero))) = Reference
    cause_by (suc (suc (suc (suc zero)))) = Repeated
    cause_by _ = Unfounded

    from_numbers : (c : Cause) → c ≡ cause_by (cause_number c)
    from_numbers Code = refl
    from_numbers Column = refl
    from_numbers Reference = refl
    from_numbers Repeated = refl
    from_numbers Unfounded = refl

module _ (R : Rule) (before : List Line) (l : Line) where
  abbrev Fault : Statement → Cause → Type 0
  Fault s c = (Right R before l s c → ⊥) × ((d : Cause) → cause_number d < cause_number c → Right R before l s d)

  fault_of : (c : Cause) (s : Statement) → statement l ≡ Some s → AtFault R before l c → Fault s c
  fault_of c s e x = rw e at x

  unknown : (c : Cause) → statement l ≡ None → AtFault R before l c → c ≡ Code
  unknown c e x = rw e at x

  not_both : Fine R before l → (c : Cause) → AtFault R before l c → ⊥
  not_both (s, e, f) c x = (fault_of c s e x).0 (f c)

  one_cause : (c d : Cause) → AtFault R before l c → AtFault R before l d → c ≡ d
  one_cause c d x y = go (statement l) refl
    where
      go : (o : Option Statement) → statement l ≡ o → c ≡ d
      go None e = unknown c e x ∙ sym (unknown d e y)
      go (Some s) e =
          let f = fault_of c s e x in
          let g = fault_of d s e y in
          ⊎_elim (λ same. same_cause c d same) (λ apart. absurd (⊎_elim (λ lt. f.0 (g.1 c lt)) (λ lt. g.0 (f.1 d lt)) apart))
          (cases_order (cause_number c) (cause_number d))

module _ (R : Rule) (lines : List Line) where
  sound_no_fault : Sound R lines → (n : ℕ) (c : Cause) → FirstFault R lines n c → ⊥
  sound_no_fault sound n c (m, l, e, f, g, h) = not_both R (take m lines) l (sound m l (subst (λ k. numbered lines k ≡ Some l) e f)) c h

  no_earlier : (n k : ℕ) (c d : Cause) → n < k → FirstFault R lines n c → FirstFault R lines k d → ⊥
  no_earlier n k c d lt (m, l, e, f, g, h) (i, j, e', f', g', h') =
      let le : suc m ≤ i = omega (arith, lt, e, e') in
      let fine = g' m l (numbered_within lines i (suc m) le ∙ subst (λ k. numbered lines k ≡ Some l) e f) in
      not_both R (take m lines) l (subst (λ before. Fine R before l) (take-take m i lines (omega (arith, le))) fine) c h

  one_fault : (n k : ℕ) (c d : Cause) → FirstFault R lines n c → FirstFault R lines k d → (n ≡ k) × (c ≡ d)
  one_fault n k c d x y =
      ⊎_elim (λ same. (same, at_same x y same)) (λ apart. absurd (⊎_elim (λ lt. no_earlier n k c d lt x y) (λ lt. no_earlier k n d c lt y x) apart)) (cases_order n k)
    where
      at_same : FirstFault R lines n c → FirstFault R lines k d → n ≡ k → c ≡ d
      at_same (m, l, e, f, g, h) (i, j, e', f', g', h') same =
          let lines_same : i ≡ m = omega (arith, e, e', same) in
          let line_same : j ≡ l = same_Some _ _ (sym f' ∙ ap (numbered lines) (sym same) ∙ f) in
          one_cause R (take m lines) l c d h
          (subst (λ b. AtFault R b l d) (ap (λ a. take a lines) lines_same) (subst (λ a. AtFault R (take i lines) a d) line_same h'))

-- reading has one answer

source_ended : (source : List ℕ) → Ended (items source)
source_ended source = ordinary_ended (items source) (ordinary-from _ source)

module _ (n : ℕ) (source : List ℕ) (ds : List (Definition ℕ)) where
  answered_once : (a b : Result NamedPhrase SyntaxFault) → Answered (limits n) (items source) a → Answered (limits n) (items source) b → a ≡ b
  answered_once a b x y = let (c, z, only) = one_answer (limits n) (items source) (source_ended source) in only a x ∙ sym (only b y)

  abbrev Same : Result (ScopedPhrase ℕ) ReadFault → Result (ScopedPhrase ℕ) ReadFault → Type 0
  Same (Ok q) (Ok r) = q ≡ r
  Same (Err f) (Err g) = answer_to f ≡ answer_to g
  Same _ _ = ⊥

  abbrev Told : Result NamedPhrase SyntaxFault → Type 0
  Told (Ok p) = Unit {0}
  Told (Err f) = ⊥

  same_phrase : (p p' : NamedPhrase) → Answered (limits n) (items source) (Ok p) → Answered (limits n) (items source) (Ok p') → p ≡ p'
  same_phrase p p' x y = let e = answered_once (Ok p) (Ok p') x y in cc

  no_phrase : (p : NamedPhrase) (f : SyntaxFault) → Answered (limits n) (items source) (Ok p) → Answered (limits n) (items source) (Err f) → ⊥
  no_phrase p f x y = subst Told (answered_once (Ok p) (Err f) x y) tt

  same_fault : (f g : SyntaxFault) → Answered (limits n) (items source) (Err f) → Answered (limits n) (items source) (Err g) → f ≡ g
  same_fault f g x y = let e = answered_once (Err f) (Err g) x y in cc

  abbrev Bound : Result (ScopedPhrase ℕ) ℕ → Type 0
  Bound (Ok q) = Unit {0}
  Bound (Err byte) = ⊥

  scoped_same : {p p' : NamedPhrase} → p ≡ p' → {r s : Result (ScopedPhrase ℕ) ℕ} → scope ds p ≡ r → scope ds p' ≡ s → r ≡ s
  scoped_same e f g = sym f ∙ ap (scope ds) e ∙ g

  read_once : (a b : Result (ScopedPhrase ℕ) ReadFault) → ReadAs n (items source) ds a → ReadAs n (items source) ds b → Same a b
  read_once (Ok q) (Ok r) (p, x, e) (p', x', e') = let same = scoped_same (same_phrase p p' x x') e e' in cc
  read_once (Ok q) (Err (Syntax f)) (p, x, e) y = no_phrase p f x y
  read_once (Ok q) (Err (Unbound f)) (p, x, e) (p', x', e') = subst Bound (scoped_same (same_phrase p p' x x') e e') tt
  read_once (Err (Syntax f)) (Ok q) y (p, x, e) = no_phrase p f x y
  read_once (Err (Unbound f)) (Ok q) (p', x', e') (p, x, e) = subst Bound (scoped_same (same_phrase p p' x x') e e') tt
  read_once (Err (Syntax f)) (Err (Syntax g)) x y = ap (λ h. answer_to (Syntax h)) (same_fault f g x y)
  read_once (Err (Syntax f)) (Err (Unbound g)) x (p, y, e) = absurd (no_phrase p f y x)
  read_once (Err (Unbound f)) (Err (Syntax g)) (p, y, e) x = absurd (no_phrase p g y x)
  read_once (Err (Unbound f)) (Err (Unbound g)) (p, x, e) (p', x', e') =
      let same = scoped_same (same_phrase p p' x x') e e' in let bytes : f.byte ≡ g.byte = cc in ap unbound_answer bytes

-- a call

short_and_long : {n : ℕ} → n ≤ 65535 → 65535 < n → ⊥
short_and_long h i = let z : ⊥ = omega (arith, h, i) in z

module _ (R : Rule) (room : ℕ) (found : List Line) (p : PhraseCall) {answer other : Answer} {steps more : ℕ} {left remaining : List Line} where
  pub phrase_once : PhraseDoes R room found p answer steps left → PhraseDoes R room found p other more remaining
      → (answer ≡ other) × (steps ≡ more) × (left ≡ remaining)
  phrase_once (too_long h a s l) (too_long h' a' s' l') = (a ∙ sym a', s ∙ sym s', l ∙ sym l')
  phrase_once (too_long h a s l) (unsound n c h' f a' s' l') = absurd (short_and_long h' h)
  phrase_once (too_long h a s l) (not_read fault h' f r a' s' l') = absurd (short_and_long h' h)
  phrase_once (too_long h a s l) (judges q h' f r a' s' l') = absurd (short_and_long h' h)
  phrase_once (unsound n c h f a s l) (too_long h' a' s' l') = absurd (short_and_long h h')
  phrase_once (unsound n c h f a s l) (unsound k d h' f' a' s' l') =
      let (e, g) = one_fault R found n k c d f f' in (a ∙ ap₂ Unsound e g ∙ sym a', s ∙ sym s', l ∙ sym l')
  phrase_once (unsound n c h f a s l) (not_read fault h' f' r a' s' l') = absurd (sound_no_fault R found f' n c f)
  phrase_once (unsound n c h f a s l) (judges q h' f' r a' s' l') = absurd (sound_no_fault R found f' n c f)
  phrase_once (not_read fault h f r a s l) (too_long h' a' s' l') = absurd (short_and_long h h')
  phrase_once (not_read fault h f r a s l) (unsound n c h' f' a' s' l') = absurd (sound_no_fault R found f n c f')
  phrase_once (not_read fault h f r a s l) (not_read fault' h' f' r' a' s' l') =
      (a ∙ read_once p.nodes p.source (definitions found) (Err fault) (Err fault') r r' ∙ sym a', s ∙ sym s', l ∙ sym l')
  phrase_once (not_read fault h f r a s l) (judges q h' f' r' a' s' l') =
      absurd (read_once p.nodes p.source (definitions found) (Err fault) (Ok q) r r')
  phrase_once (judges q h f r a s l) (too_long h' a' s' l') = absurd (short_and_long h h')
  phrase_once (judges q h f r a s l) (unsound n c h' f' a' s' l') = absurd (sound_no_fault R found f n c f')
  phrase_once (judges q h f r a s l) (not_read fault h' f' r' a' s' l') =
      absurd (read_once p.nodes p.source (definitions found) (Ok q) (Err fault) r r')
  phrase_once (judges q h f r a s l) (judges q' h' f' r' a' s' l') =
      let e = read_once p.nodes p.source (definitions found) (Ok q) (Ok q') r r' in (
        a ∙ ap (λ k. answer_of (judging R room found p k)) e ∙ sym a',
        s ∙ ap (λ k. steps_of (judging R room found p k)) e ∙ sym s',
        l ∙ ap (λ k. lines_left found (judging R room found p k)) e ∙ sym l',
      )

pub once : (R : Rule) → OneAnswer R
once R room found p answer other steps more left remaining x y = phrase_once R room found p x y

-- on a sound listing a phrase has an answer, and the check has this one

pub some_answer : (R : Rule) (room : ℕ) (found : List Line) → Sound R found → (p : PhraseCall)
    → (answer : Answer) × (steps : ℕ) × (left : List Line) × PhraseDoes R room found p answer steps left
some_answer R room found sound p =
    ⊎_elim (λ long. (SourceTooLong, 0, found, too_long long refl refl refl))
    (λ short.
    let (a, x, only) = one_answer (limits p.nodes) (items p.source) (source_ended p.source) in go short a x) (cases_lt 65535 (length p.source))
  where
    scoped : length p.source ≤ 65535 → (np : NamedPhrase) → Answered (limits p.nodes) (items p.source) (Ok np) → (r : Result (ScopedPhrase ℕ) ℕ)
        → scope (definitions found) np ≡ r → (answer : Answer) × (steps : ℕ) × (left : List Line) × PhraseDoes R room found p answer steps left
    scoped short np x (Ok q) e = (_, _, _, judges q short sound (np, x, e) refl refl refl)
    scoped short np x (Err byte) e = (_, _, _, not_read (Unbound (record { byte = byte })) short sound (np, x, e) refl refl refl)

    go : length p.source ≤ 65535 → (a : Result NamedPhrase SyntaxFault) → Answered (limits p.nodes) (items p.source) a
        → (answer : Answer) × (steps : ℕ) × (left : List Line) × PhraseDoes R room found p answer steps left
    go short (Err f) x = (_, _, _, not_read (Syntax f) short sound x refl refl refl)
    go short (Ok np) x = scoped short np x (scope (definitions found) np) refl

pub check_answers : (R : Rule) (room : ℕ) (found left : List Line) → Sound R found → (answer : Answer) → Does R room found (check answer) left
    → answer ≡ Granted (length found)
check_answers R room found left sound answer (Ok n, c, a, e) = a ∙ ap Granted c.0
check_answers R room found left sound answer (Err fault, c, a, e) = absurd (sound_no_fault R found sound fault.line fault.cause c)
