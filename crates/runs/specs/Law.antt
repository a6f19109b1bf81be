-- The law over all runs of phrase, check, trial, keep and withdraw, for a quantifier rule. Each part is named for what it says.
use Rattle.std.specs.Prelude.{◌≡◌, ℕ, ◌≤◌, List, ◌++◌, length, Some, Ok}
use Rattle.checker.specs.Checked.{Checked}
use Rattle.judge.specs.Judgments.{Stated_by}
use Rattle.lines.specs.Answers.{number}
use Rattle.lines.specs.Stores.{numbered}
use Rattle.lines.specs.declared.answer.Answer.{Answer}
use Rattle.lines.specs.declared.answer.Answer.TheVariants.{Granted, Fails}
use Rattle.lines.specs.declared.line.Line.{Line}
use Rattle.rules.specs.Derivations.{Judgment, has, Derivable}
use Rattle.rules.specs.Quantifiers.{Rule}
use Rattle.rules.specs.Statements.{let_type, let_term, Get, said}
use Rattle.rules.specs.Syntax.{Ty, Env}
use Rattle.runs.specs.Calls.{Call, phrase, check, PhraseCall, Does}
use Rattle.runs.specs.Definitions.{Definition, session_env, DefinitionsOf}
use Rattle.runs.specs.Judgments.{term_of, Asks, IsPhrase, LeastType}
use Rattle.runs.specs.Runs.{Run, InForce}
use Rattle.scope.specs.Scoped.{ScopedPhrase, let_type as let_type_phrase, let_type_unbounded, let_term as let_term_phrase, let_term_untyped, of_term}

-- the checker accepts the listing
abbrev pub Accepted : Rule → List Line → Type 0
Accepted R lines = Checked R lines (Ok (length lines))

-- Listings, from any hand.

-- each line 50 to 79 of a listing that the checker accepts states one judgment
abbrev pub AcceptedLinesState : Rule → Type 0
AcceptedLinesState R =
    (lines : List Line) → Accepted R lines → (n : ℕ) (l : Line) → numbered lines n ≡ Some l → 50 ≤ l.code → l.code ≤ 79
    → (J : Judgment) × Stated_by (said lines) n J × ((K : Judgment) → Stated_by (said lines) n K → K ≡ J)

-- and only derivable ones
abbrev pub AcceptedMeansDerivable : Rule → Type 0
AcceptedMeansDerivable R =
    (lines : List Line) → Accepted R lines → (n : ℕ) (J : Judgment) → Stated_by (said lines) n J → Derivable R J

abbrev pub DerivableEndsASoundListing : Rule → Type 0
DerivableEndsASoundListing R =
    (J : Judgment) → Derivable R J → (lines : List Line) × Accepted R lines × Stated_by (said lines) (length lines) J

-- Phrase calls.

-- an answer, with the steps and the lines left, that the definition of the call gives is the only one
abbrev pub OneAnswer : Rule → Type 0
OneAnswer R =
    (room : ℕ) (found : List Line) (p : PhraseCall) (answer other : Answer) (steps more : ℕ) (left remaining : List Line)
    → Does R room found (phrase p answer steps) left → Does R room found (phrase p other more) remaining
    → (answer ≡ other) × (steps ≡ more) × (left ≡ remaining)

-- What holds of a phrase call on the lines that a run leads to, where these definitions are in force.

-- line n states J, or it is a definition and names the line that does
abbrev pub SaidBy : Get → ScopedPhrase Ty → ℕ → Judgment → Type 0
SaidBy G (let_type_phrase w B A) n J = (x b a p e d : ℕ) × (G n ≡ Some (let_type x b a p e d)) × Stated_by G p J
SaidBy G (let_type_unbounded w A) n J = (x b a p e d : ℕ) × (G n ≡ Some (let_type x b a p e d)) × Stated_by G p J
SaidBy G (let_term_phrase w A b) n J = (x a b p e d : ℕ) × (G n ≡ Some (let_term x a b p e d)) × Stated_by G p J
SaidBy G (let_term_untyped w b) n J = (x a b p e d : ℕ) × (G n ≡ Some (let_term x a b p e d)) × Stated_by G p J
SaidBy G q n J = Stated_by G n J

-- of a term, or a let without a type, J gives the least type
abbrev pub GivesLeastType : Rule → Env → ScopedPhrase Ty → Judgment → Type 0
GivesLeastType R Γ (of_term a) J = (A : Ty) × (J ≡ has Γ (term_of a) A) × LeastType R Γ (term_of a) A
GivesLeastType R Γ (let_term_untyped w b) J = (A : Ty) × (J ≡ has Γ (term_of b) A) × LeastType R Γ (term_of b) A
GivesLeastType R Γ q J = Unit {0}

-- the phrase and a judgment of it, which the line answered says
pub record SaysItsJudgment (R : Rule) (ds : List Definition) (p : PhraseCall) (n : ℕ) (left : List Line) : Type 0 where
  pub read : ScopedPhrase Ty
  pub judgment : Judgment
  pub is_read : IsPhrase p.source ds read
  pub is_asked : Asks (session_env ds) read judgment
  pub is_said : SaidBy (said left) read n judgment
  pub is_derivable : Derivable R judgment
  pub granted_type_is_least : GivesLeastType R (session_env ds) read judgment

-- the phrase, no judgment of which can be derived
pub record HasNoDerivation (R : Rule) (ds : List Definition) (p : PhraseCall) : Type 0 where
  pub read : ScopedPhrase Ty
  pub is_read : IsPhrase p.source ds read
  pub underivable : (J : Judgment) → Asks (session_env ds) read J → Derivable R J → ⊥

-- the same source, and no smaller limit
abbrev pub NoSmaller : PhraseCall → PhraseCall → Type 0
NoSmaller p p' = (p'.source ≡ p.source) × (p.steps ≤ p'.steps) × (p.goals ≤ p'.goals) × (p.nodes ≤ p'.nodes)

pub record PhraseLaw (R : Rule) (room : ℕ) (found : List Line) (ds : List Definition) (p : PhraseCall) (answer : Answer) (steps : ℕ) (left : List Line) : Type 0 where
  pub granted_says_its_judgment : (n : ℕ) → answer ≡ Granted n → SaysItsJudgment R ds p n left
  pub fails_means_no_derivation : (byte : ℕ) → answer ≡ Fails byte → HasNoDerivation R ds p
  -- with larger limits, and on any store with the lines found, that is answered, and by `one_answer` nothing else
  pub larger_limits_same_verdict : number answer ≤ 1 → (more : ℕ) → room ≤ more → (p' : PhraseCall) → NoSmaller p p'
      → Does R more found (phrase p' answer steps) left
  pub granted_adds_lines_at_the_end : (n : ℕ) → answer ≡ Granted n → (more : List Line) × (left ≡ found ++ more)
  pub refused_leaves_the_lines_found : (number answer ≡ 0 → ⊥) → left ≡ found

-- Runs.

pub record RunLaw (R : Rule) (room : ℕ) (calls : List Call) (lines : List Line) : Type 0 where
  pub the_checker_accepts : Accepted R lines
  pub the_check_answers_the_count : (answer : Answer) (left : List Line) → Does R room lines (check answer) left → answer ≡ Granted (length lines)
  -- the definitions in force, reckoned from calls and answers alone
  pub definitions : List Definition
  pub are_in_force : InForce R calls definitions
  pub no_others_are_in_force : (others : List Definition) → InForce R calls others → others ≡ definitions
  -- have just the numbers of the listing's lines 91 and 92, which say them
  pub definitions_are_those_in_force : DefinitionsOf lines definitions
  -- of any phrase that is called next, and so of each that the run has
  pub each_phrase_is_answered : (p : PhraseCall) → (answer : Answer) × (steps : ℕ) × (left : List Line) × Does R room lines (phrase p answer steps) left
  pub each_phrase : (p : PhraseCall) (answer : Answer) (steps : ℕ) (left : List Line) → Does R room lines (phrase p answer steps) left
      → PhraseLaw R room lines definitions p answer steps left

pub record Law (R : Rule) : Type 0 where
  pub accepted_lines_state : AcceptedLinesState R
  pub accepted_means_derivable : AcceptedMeansDerivable R
  pub derivable_ends_a_sound_listing : DerivableEndsASoundListing R
  pub one_answer : OneAnswer R
  pub each_run : (room : ℕ) (calls : List Call) (lines : List Line) → Run R room calls lines → RunLaw R room calls lines
