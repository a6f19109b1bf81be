-- The text of a verdict: a sentence for people, and as the last line the answer's number, place and cause in 8 columns each.
use Rattle.std.specs.Prelude.{ℕ, ◌-◌, if◌then◌else◌, List, [], ◌∷◌, ◌++◌, length, replicate, codes, decimal, nat_lt}
use Rattle.lines.specs.Answers.{number, place, cause_of, cause_text}
use Rattle.lines.specs.declared.answer.Answer.{Answer}
use Rattle.lines.specs.declared.answer.Answer.TheVariants.{Granted, Unsound, OutOfForm}
use Rattle.report.specs.RuleNames.{rule_text}
use Rattle.report.specs.declared.verdict.Verdict.{Verdict}

-- a sound listing, by its number of lines
abbrev pub sound_text : (lines judgments definitions : ℕ) → List ℕ
sound_text lines judgments definitions =
    if nat_lt 0 lines
    then codes "sound. Lines: " ++ (decimal lines ++ (codes ", judgments: " ++ (decimal judgments ++ (codes ", definitions: " ++ decimal definitions))))
    else codes "0 lines, nothing is concluded"

-- the first place that is no line; a later one than 65535 has that many lines before it
abbrev pub out_text : (place : ℕ) → List ℕ
out_text p =
    if nat_lt 65535 p
    then codes "no listing. More than 65535 places"
    else codes "no listing. Place " ++ (decimal p ++ codes " is out of form")

abbrev pub finding_text : Answer → (judgments definitions : ℕ) → List ℕ
finding_text (Granted n) judgments definitions = sound_text n judgments definitions
finding_text (Unsound n c) judgments definitions = codes "unsound. Line " ++ (decimal n ++ (codes ": " ++ cause_text c))
finding_text (OutOfForm p) judgments definitions = out_text p
finding_text other judgments definitions = codes "no verdict"

-- right-justified in 8 columns
abbrev pub in_eight : ℕ → List ℕ
in_eight n = replicate (8 - length (decimal n)) 32 ++ decimal n

abbrev pub last_line : Answer → List ℕ
last_line a = in_eight (number a) ++ (in_eight (place a) ++ (in_eight (cause_of a) ++ 10 ∷ []))

abbrev pub reported : Verdict → List ℕ
reported v =
    rule_text v.rule ++ (codes ": " ++ (finding_text v.answer v.judgments v.definitions ++ (codes ".\n" ++ last_line v.answer)))
