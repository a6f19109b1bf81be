-- What a line says, by its code.
use Rattle.std.proofs.Common.{◌≡◌, ℕ, ◌≢◌, Some, None, Option, refl, sym, ap}
use Rattle.lines.specs.declared.line.Line.{Line}
use Rattle.rules.specs.Statements.{TypeLine, top', var', arrow', all', rec', EnvLine, empty', with_term', with_type', Statement, type_line, env_line, statement, table, coded}
use Rattle.rules.proofs.Codes.{says, code_read, type_code, env_code}
use Rattle.judge.specs.Plans.{as_type, as_env}

abbrev pub NotType : ℕ → Type 0
NotType c = (c ≢ 10) × (c ≢ 11) × (c ≢ 12) × (c ≢ 13) × (c ≢ 14)

no_type_code : (t : TypeLine) (c : ℕ) → c ≡ type_code t → NotType c → ⊥
no_type_code top' c e n = n.0 e
no_type_code (var' k) c e n = n.1 e
no_type_code (arrow' a b) c e n = n.2 e
no_type_code (all' a b) c e n = n.3 e
no_type_code (rec' b) c e n = n.4 e

pub no_type : (l : Line) → NotType l.code → None ≡ as_type (statement l)
no_type l n = go (statement l) refl
  where
    go : (o : Option Statement) → statement l ≡ o → None ≡ as_type o
    go None e = refl
    go (Some (type_line t)) e = absurd (no_type_code t l.code (code_read l (type_line t) e) n)
    go (Some other) e = refl

abbrev pub NotEnv : ℕ → Type 0
NotEnv c = (c ≢ 30) × (c ≢ 31) × (c ≢ 32)

no_env_code : (t : EnvLine) (c : ℕ) → c ≡ env_code t → NotEnv c → ⊥
no_env_code empty' c e n = n.0 e
no_env_code (with_term' E A) c e n = n.1 e
no_env_code (with_type' E A) c e n = n.2 e

pub no_env : (l : Line) → NotEnv l.code → None ≡ as_env (statement l)
no_env l n = go (statement l) refl
  where
    go : (o : Option Statement) → statement l ≡ o → None ≡ as_env o
    go None e = refl
    go (Some (env_line t)) e = absurd (no_env_code t l.code (code_read l (env_line t) e) n)
    go (Some other) e = refl

-- read by a code of the table
pub type_said : (l : Line) (c : ℕ) → l.code ≡ c → as_type (coded c (table l)) ≡ as_type (statement l)
type_said l c e = sym (ap as_type (says l c e))

pub env_said : (l : Line) (c : ℕ) → l.code ≡ c → as_env (coded c (table l)) ≡ as_env (statement l)
env_said l c e = sym (ap as_env (says l c e))
