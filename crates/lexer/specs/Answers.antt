-- The answer that each fault is.
use Rattle.lines.specs.declared.answer.Answer.{Answer}
use Rattle.lines.specs.declared.answer.Answer.TheVariants.{NoToken, OpenComment, LongName, TooDeep}
use Rattle.lexer.specs.declared.fault.LexicalFault.{LexicalFault}
use Rattle.lexer.specs.declared.fault.LexicalFault.TheVariants.{NoToken as no_token, OpenComment as open_comment, LongName as long_name, DeepComment as deep_comment}

abbrev pub answer_of : LexicalFault → Answer
answer_of (no_token byte) = NoToken byte
answer_of (open_comment byte) = OpenComment byte
answer_of (long_name byte) = LongName byte
answer_of (deep_comment byte) = TooDeep byte
