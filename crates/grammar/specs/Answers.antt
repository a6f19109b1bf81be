-- The answer that each fault of a source is.
use Rattle.lexer.specs.Answers as lexical
use Rattle.lines.specs.declared.answer.Answer.{Answer}
use Rattle.lines.specs.declared.answer.Answer.TheVariants as answer
use Rattle.grammar.specs.declared.fault.SyntaxFault.{SyntaxFault}
use Rattle.grammar.specs.declared.fault.SyntaxFault.TheVariants.{Lexical, Unexpected, TooDeep, TreeFull}

abbrev pub answer_of : SyntaxFault → Answer
answer_of (Lexical fault) = lexical.answer_of fault
answer_of (Unexpected byte) = answer.Unexpected byte
answer_of (TooDeep byte) = answer.TooDeep byte
answer_of (TreeFull byte) = answer.TreeFull byte
