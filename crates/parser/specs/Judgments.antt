-- The words behind judge.
use Rattle.std.specs.Prelude.{Option, Some, None, codes, if◌then◌else◌}
use Rattle.lexer.specs.Names.{same, kept}
use Rattle.lexer.specs.declared.name.Name.{Name}
use Rattle.parser.specs.declared.judgment.Judgment.{Judgment}
use Rattle.parser.specs.declared.judgment.Judgment.TheVariants.{IsEnv, IsType, IsSubtype, HasType}

abbrev pub judgment_named : Name → Option Judgment
judgment_named w =
    if same (kept (codes "env")) w then Some IsEnv else
    (if same (kept (codes "type")) w then Some IsType else
    (if same (kept (codes "subtype")) w then Some IsSubtype else
    (if same (kept (codes "term")) w then Some HasType else None)))
