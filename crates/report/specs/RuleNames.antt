-- The quantifier rules and their names.
use Rattle.std.specs.Prelude.{◌≡◌, ℕ, List, Some, None, codes, Option}
use Rattle.report.specs.declared.rule_name.RuleName.{RuleName}
use Rattle.report.specs.declared.rule_name.RuleName.TheVariants.{EqualBounds, LeastBound}
use Rattle.rules.specs.Quantifiers.{Rule, equal_bounds, least_bound}

abbrev pub rule_text : RuleName → List ℕ
rule_text EqualBounds = codes "EqualBounds"
rule_text LeastBound = codes "LeastBound"

abbrev pub rule_of : RuleName → Rule
rule_of EqualBounds = equal_bounds
rule_of LeastBound = least_bound

-- the rule that a word names, if it names one
abbrev pub Named : List ℕ → Option RuleName → Type 0
Named word (Some rule) = word ≡ rule_text rule
Named word None = (rule : RuleName) → word ≡ rule_text rule → ⊥
