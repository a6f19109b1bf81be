-- Runs: from no lines on, any calls with their answers. And what they have defined, reckoned from the calls and the answers alone.
use Rattle.std.specs.Prelude.{◌≡◌, ℕ, List, [], ◌∷◌, ◌++◌, if◌then◌else◌, nat_le}
use Rattle.lines.specs.declared.answer.Answer.{Answer}
use Rattle.lines.specs.declared.answer.Answer.TheVariants.{Granted}
use Rattle.lines.specs.declared.line.Line.{Line}
use Rattle.rules.specs.Quantifiers.{Rule}
use Rattle.rules.specs.Syntax as rules
use Rattle.rules.specs.Syntax.{Ty, Env}
use Rattle.runs.specs.Calls.{Call, phrase, check, trial, keep, withdraw, PhraseCall, Does}
use Rattle.runs.specs.Definitions.{Definition, type_definition, term_definition, line_of, session_env}
use Rattle.runs.specs.Judgments.{type_of, term_of, IsPhrase, LeastType}
use Rattle.scope.specs.Scoped as scoped
use Rattle.scope.specs.Scoped.{ScopedPhrase}

-- the calls, the latest first, lead to these lines, on a store with so much room
pub data Run (R : Rule) (room : ℕ) : List Call → List Line → Type 0 where
  begins : Run R room [] []
  goes_on : {calls : List Call} {found left : List Line} {call : Call} → Run R room calls found → Does R room found call left
      → Run R room (call ∷ calls) left

-- a call extends every run that led to the lines it found
abbrev pub Extends : Rule → (room : ℕ) → (found : List Line) → Call → (left : List Line) → Type 0
Extends R room found call left = (calls : List Call) → Run R room calls found → Run R room (call ∷ calls) left

-- what the phrase, granted by line n in the session environment Γ, defines; where a let leaves out the type, it has the type judged
abbrev pub Adds : Rule → Env → ℕ → ScopedPhrase Ty → List Definition → Type 0
Adds R Γ n (scoped.let_type w B A) ds = ds ≡ type_definition n w (type_of B) (type_of A) ∷ []
Adds R Γ n (scoped.let_type_unbounded w A) ds = ds ≡ type_definition n w rules.top (type_of A) ∷ []
Adds R Γ n (scoped.let_term w A b) ds = ds ≡ term_definition n w (type_of A) (term_of b) ∷ []
Adds R Γ n (scoped.let_term_untyped w b) ds = (A : Ty) × LeastType R Γ (term_of b) A × (ds ≡ term_definition n w A (term_of b) ∷ [])
Adds R Γ n other ds = ds ≡ []

-- the definitions whose lines are not above the mark
abbrev pub up_to : ℕ → List Definition → List Definition
up_to mark [] = []
up_to mark (d ∷ ds) = if nat_le (line_of d) mark then d ∷ up_to mark ds else up_to mark ds

-- what a phrase or a withdraw that was answered so makes of the definitions in force
abbrev pub PhraseDefines : Rule → List Definition → PhraseCall → Answer → List Definition → Type 0
PhraseDefines R ds p (Granted n) new =
    (q : ScopedPhrase Ty) × (more : List Definition) × IsPhrase p.source ds q × Adds R (session_env ds) n q more × (new ≡ ds ++ more)
PhraseDefines R ds p other new = new ≡ ds

abbrev pub WithdrawDrops : List Definition → ℕ → Answer → List Definition → Type 0
WithdrawDrops ds mark (Granted n) new = new ≡ up_to mark ds
WithdrawDrops ds mark other new = new ≡ ds

-- a call with its answer makes of the definitions in force the new ones
abbrev pub Redefines : Rule → List Definition → Call → List Definition → Type 0
Redefines R ds (phrase p answer steps) new = PhraseDefines R ds p answer new
Redefines R ds (check answer) new = new ≡ ds
Redefines R ds (trial mark) new = new ≡ ds
Redefines R ds (keep mark answer) new = new ≡ ds
Redefines R ds (withdraw mark answer) new = WithdrawDrops ds mark answer new

-- the definitions in force after these calls, the latest call first
pub data InForce (R : Rule) : List Call → List Definition → Type 0 where
  nothing_defined : InForce R [] []
  after_call : {calls : List Call} {call : Call} {ds new : List Definition} → InForce R calls ds → Redefines R ds call new
      → InForce R (call ∷ calls) new
