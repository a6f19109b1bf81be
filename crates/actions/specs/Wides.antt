-- A line to be.
use Rattle.std.specs.Prelude.{◌≡◌, ◌<◌, ◌⊎◌, Some, None, Option}
use Rattle.lines.specs.declared.line.Line.{Line}
use Rattle.actions.specs.declared.wide.Wide.{Wide}

abbrev pub widened : Wide → Line
widened w = record { code = w.code; c1 = w.c1; c2 = w.c2; c3 = w.c3; c4 = w.c4; c5 = w.c5; c6 = w.c6; c7 = w.c7 }

-- the line, or a plain number passes 65,535
abbrev pub Narrow : Wide → Option Line → Type 0
Narrow w (Some l) = l ≡ widened w
Narrow w None = (65535 < w.c1) ⊎ (65535 < w.c2)
