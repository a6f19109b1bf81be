-- Every run leads to a sound listing whose definitions are those in force.
use Rattle.std.proofs.Common.{◌≡◌, ℕ, List, [], ◌∷◌, ◌++◌, take, refl, sym, subst, ⊎_elim, arith}
use Rattle.lines.specs.declared.answer.Answer.{Answer}
use Rattle.lines.specs.declared.answer.Answer.TheVariants.{Granted}
use Rattle.lines.specs.declared.line.Line.{Line}
use Rattle.rules.specs.Faults.{Sound}
use Rattle.rules.specs.Laws.{Chains, Instances, Bodies, Admitted}
use Rattle.rules.specs.Quantifiers.{Rule}
use Rattle.rules.proofs.Grow.{cut_sound}
use Rattle.rules.proofs.Whole.{defines_on, said_take}
use Rattle.runs.specs.Calls.{Call, phrase, check, trial, keep, withdraw, PhraseCall, PhraseDoes, Does}
use Rattle.runs.specs.Definitions.{Definition, no_line, DefinitionsOf}
use Rattle.runs.specs.Runs.{Run, begins, goes_on, Extends, up_to, Redefines, InForce, nothing_defined, after_call}
use Rattle.runs.proofs.Definitions.{says_first, first_defined}
use Rattle.std.proofs.lemmas.Option.{none-some}
use Rattle.runs.proofs.Phrases.{has_judged, refused_leaves, granted}

-- where a run stands
pub record Stands (R : Rule) (calls : List Call) (lines : List Line) : Type 0 where
  pub sound : Sound R lines
  pub definitions : List Definition
  pub in_force : InForce R calls definitions
  pub defined : DefinitionsOf lines definitions

-- what a call makes of it
record Becomes (R : Rule) (ds : List Definition) (call : Call) (left : List Line) : Type 0 where
  sound : Sound R left
  new : List Definition
  redefines : Redefines R ds call new
  defined : DefinitionsOf left new

module _ {R : Rule} (chains : Chains R) (instances : Instances R) (bodies : Bodies R) (admitted : Admitted R) (room : ℕ)
    (found : List Line) (sound : Sound R found) (ds : List Definition) (defined : DefinitionsOf found ds) where
  -- the lines found, and the same definitions
  unchanged : (call : Call) (left : List Line) → Redefines R ds call ds → left ≡ found → Becomes R ds call left
  unchanged call left r e =
      record { sound = subst (Sound R) (sym e) sound; new = ds; redefines = r; defined = subst (λ xs. DefinitionsOf xs ds) (sym e) defined }

  after_phrase : (p : PhraseCall) (answer : Answer) (steps : ℕ) (left : List Line) → PhraseDoes R room found p answer steps left
      → Becomes R ds (phrase p answer steps) left
  after_phrase p (Granted n) steps left d =
      let g = granted chains instances bodies admitted found sound ds defined room p (has_judged d (omega arith)) n refl in
      record { sound = g.sound; new = ds ++ g.more; redefines = (g.says.read, g.more, g.says.is_read, g.adds, refl); defined = g.defined }
  after_phrase p other steps left d = unchanged (phrase p other steps) left refl (refused_leaves d (λ e. let z : ⊥ = omega (arith, e) in z))

  after_cut : (mark : ℕ) → DefinitionsOf (take mark found) (up_to mark ds)
  after_cut mark =
      first_defined mark (λ d h s. says_first R found sound mark h s) (λ k E x. defines_on (said_take found mark) x) mark (omega arith) defined

  becomes : (call : Call) (left : List Line) → Does R room found call left → Becomes R ds call left
  becomes (phrase p answer steps) left d = after_phrase p answer steps left d
  becomes (check answer) left (r, c, a, e) = unchanged (check answer) left refl e
  becomes (trial mark) left (m, e) = unchanged (trial mark) left refl e
  becomes (keep mark answer) left (a, e) = unchanged (keep mark answer) left refl e
  becomes (withdraw mark answer) left d =
      ⊎_elim
      (λ (h, a, e). record {
        sound = subst (Sound R) (sym e) (cut_sound R found sound mark);
        new = up_to mark ds;
        redefines = subst (λ b. Redefines R ds (withdraw mark b) (up_to mark ds)) (sym a) refl;
        defined = subst (λ xs. DefinitionsOf xs (up_to mark ds)) (sym e) (after_cut mark);
      })
      (λ (h, a, e). unchanged (withdraw mark answer) left (subst (λ b. Redefines R ds (withdraw mark b) ds) (sym a) refl) e) d

module _ {R : Rule} (chains : Chains R) (instances : Instances R) (bodies : Bodies R) (admitted : Admitted R) where
  pub stands : {room : ℕ} {calls : List Call} {lines : List Line} → Run R room calls lines → Stands R calls lines
  stands begins = record { sound = λ n l e. absurd (none-some _ e); definitions = []; in_force = nothing_defined; defined = no_line }
  stands {room} (goes_on {found = found} {left = left} {call = call} run does) =
      let s = stands run in
      let b = becomes chains instances bodies admitted room found s.sound s.definitions s.defined call left does in
      record { sound = b.sound; definitions = b.new; in_force = after_call s.in_force b.redefines; defined = b.defined }

-- each call that does what its definition says extends every run
pub extends : {R : Rule} {room : ℕ} {found left : List Line} (call : Call) → Does R room found call left → Extends R room found call left
extends call does calls run = goes_on run does

-- Each call of a run was made on the lines that the calls before it led to: so what holds of a call that comes next holds of each.
pub each_call : {R : Rule} {room : ℕ} {lines : List Line} (later : List Call) (call : Call) (earlier : List Call)
    → Run R room (later ++ call ∷ earlier) lines → (found left : List Line) × Run R room earlier found × Does R room found call left
each_call [] call earlier (goes_on {found = found} {left = left} run does) = (found, left, run, does)
each_call (last ∷ later) call earlier (goes_on run does) = each_call later call earlier run
