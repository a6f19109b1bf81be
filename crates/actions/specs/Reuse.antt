-- Whether a line serves a goal, and its result, by the line's numbers.
use Rattle.std.specs.Prelude.{ℕ, Bool, false, ◌&&◌, if◌then◌else◌, Some, None, Option, ◌==◌, nat_le}
use Rattle.lines.specs.declared.line.Line.{Line}
use Rattle.actions.specs.declared.goal.Goal.{Goal}

abbrev pub in_codes : (low high c : ℕ) → Bool
in_codes low high c = nat_le low c && nat_le c high

abbrev pub line_serves : Goal → Line → Bool
line_serves (Goal.Raising A j) l = l.code == 40 && (A == l.c1 && j == l.c2)
line_serves (Goal.Putting B j A) l = l.code == 41 && (B == l.c1 && j == l.c2 && A == l.c3)
line_serves (Goal.Bound E k) l = l.code == 42 && (E == l.c1 && k == l.c2)
line_serves (Goal.Typing E k) l = l.code == 43 && (E == l.c1 && k == l.c2)
line_serves (Goal.Env E) l = l.code == 50 && E == l.c1
line_serves (Goal.«Type» E A) l = l.code == 51 && (E == l.c1 && A == l.c2)
line_serves (Goal.Sub E A B) l = in_codes 60 66 l.code && (E == l.c1 && A == l.c2 && B == l.c3)
line_serves (Goal.Var E A) l = l.code == 62 && (E == l.c1 && A == l.c2)
line_serves other l = false

abbrev pub line_result : Goal → Line → ℕ
line_result (Goal.Raising A j) l = l.c3
line_result (Goal.Putting B j A) l = l.c4
line_result (Goal.Bound E k) l = l.c3
line_result (Goal.Typing E k) l = l.c3
line_result (Goal.Sub E A B) l = l.c3
line_result (Goal.Var E A) l = l.c3
line_result other l = 0

abbrev pub line_answer : Goal → Line → Option ℕ
line_answer g l = if line_serves g l then Some (line_result g l) else None
