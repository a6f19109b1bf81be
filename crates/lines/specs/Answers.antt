-- The closed table of answers: the number and the place that each one prints, and the cause of 13.
use Rattle.std.specs.Prelude.{ℕ, List, Ok, Err, Result, codes}
use Rattle.lines.specs.declared.answer.Answer.{Answer}
use Rattle.lines.specs.declared.answer.Answer.TheVariants.{Granted, Fails, SourceTooLong, NoToken, OpenComment, LongName, Unexpected, TooDeep, TreeFull, Unbound, StepsSpent, GoalsFull, StoreFull, Unsound, OutOfForm, PastCount}
use Rattle.lines.specs.declared.answer.Cause.{Cause}
use Rattle.lines.specs.declared.answer.Cause.TheVariants.{Code, Column, Reference, Repeated, Unfounded}
use Rattle.lines.specs.declared.fault.Unsound.{Unsound as UnsoundFault}

abbrev pub cause_number : Cause → ℕ
cause_number Code = 1
cause_number Column = 2
cause_number Reference = 3
cause_number Repeated = 4
cause_number Unfounded = 5

-- the cause in words
abbrev pub cause_text : Cause → List ℕ
cause_text Code = codes "its code is unknown or not admitted"
cause_text Column = codes "a column past those of its code is not 0"
cause_text Reference = codes "a line that it names is not earlier or not of that kind"
cause_text Repeated = codes "an equal line stands earlier"
cause_text Unfounded = codes "it does not follow"

abbrev pub number : Answer → ℕ
number (Granted n) = 0
number (Fails n) = 1
number SourceTooLong = 2
number (NoToken n) = 3
number (OpenComment n) = 4
number (LongName n) = 5
number (Unexpected n) = 6
number (TooDeep n) = 7
number (TreeFull n) = 8
number (Unbound n) = 9
number StepsSpent = 10
number GoalsFull = 11
number StoreFull = 12
number (Unsound n c) = 13
number (OutOfForm n) = 14
number (PastCount n) = 15

abbrev pub place : Answer → ℕ
place (Granted n) = n
place (Fails n) = n
place SourceTooLong = 65535
place (NoToken n) = n
place (OpenComment n) = n
place (LongName n) = n
place (Unexpected n) = n
place (TooDeep n) = n
place (TreeFull n) = n
place (Unbound n) = n
place StepsSpent = 0
place GoalsFull = 0
place StoreFull = 0
place (Unsound n c) = n
place (OutOfForm n) = n
place (PastCount n) = n

abbrev pub cause_of : Answer → ℕ
cause_of (Granted n) = 0
cause_of (Fails n) = 0
cause_of SourceTooLong = 0
cause_of (NoToken n) = 0
cause_of (OpenComment n) = 0
cause_of (LongName n) = 0
cause_of (Unexpected n) = 0
cause_of (TooDeep n) = 0
cause_of (TreeFull n) = 0
cause_of (Unbound n) = 0
cause_of StepsSpent = 0
cause_of GoalsFull = 0
cause_of StoreFull = 0
cause_of (Unsound n c) = cause_number c
cause_of (OutOfForm n) = 0
cause_of (PastCount n) = 0

-- what is printed of a listing that was checked: the count of a sound one, or the fault
abbrev pub answer_to : Result ℕ UnsoundFault → Answer
answer_to (Ok n) = Granted n
answer_to (Err fault) = Unsound fault.line fault.cause
