-- The applications behind a term, one after the other.
use Rattle.std.proofs.Common.{◌≡◌, ℕ, ◌≤◌, Bool, true, false, not, true≢false, List, [], ◌∷◌, ◌++◌, length, Result, refl, ap, ◌∙◌, sym, arith}
use Rattle.lexer.specs.Items.{Item}
use Rattle.lexer.specs.contracts.token.WordPartialEq.TheImpl.{ghosts}
use Rattle.lexer.specs.declared.name.Name.{Name}
use Rattle.lexer.specs.declared.token.Word.{Word}
use Rattle.lexer.specs.declared.token.Word.TheVariants.{Open}
use Rattle.grammar.specs.Notation.{Val, args, argument}
use Rattle.grammar.specs.declared.fault.SyntaxFault.{SyntaxFault}
use Rattle.grammar.proofs.Words.{same_word_is}
use Rattle.syntax.specs.declared.node.Node.{Node}
use Rattle.tables.specs.Tables.{held}
use Rattle.parser.proofs.Equals.{equals_is}
use Rattle.parser.proofs.Looking.{not_true}
use Rattle.parser.proofs.TermNodes.{given_term_laid}
use Rattle.parser.specs.Parsing.{items, nodes, placed, limits, Parsed, LaidArgs, GivenArgument}
use Rattle.parser.specs.declared.parser.Parser.{Parser}

-- what `!=` tells

pub is_open : (w : Word) (b : Bool) → b ≡ not (ghosts.eq w Open) → b ≡ false → w ≡ Open
is_open w b h e = same_word_is w Open (not_true _ (sym (h ∙ ap not (equals_is w Open)) ∙ e))

pub is_not_open : (w : Word) (b : Bool) → b ≡ not (ghosts.eq w Open) → b ≡ true → w ≡ Open → ⊥
is_not_open w b h e i = true≢false (sym e ∙ h ∙ ap (λ y. not (ghosts.eq y Open)) i)

as_many : (ts : List Item) → length ts ≤ length ts
as_many ts = omega arith

module _ (types terms : List Name) (d q : ℕ) where
  -- what is promised of the arguments at p, behind the term whose node is f
  abbrev pub Args : (p : Parser) (f : ℕ) (new : Parser) → Result ℕ SyntaxFault → Type 0
  Args p f new r = Parsed args d q p new (LaidArgs types terms f (nodes p) (nodes new)) r

  -- Arguments were read from p0 up to p: what comes of those at p comes of all.
  pub record SoFar (p0 : Parser) (f0 : ℕ) (p : Parser) (f : ℕ) : Type 0 where
    pub same : limits p ≡ limits p0
    pub shorter : length (items p) ≤ length (items p0)
    pub goes_on : (new : Parser) (r : Result ℕ SyntaxFault) → Args p f new r → Args p0 f0 new r

  pub at_first : (p : Parser) (f : ℕ) → SoFar p f p f
  at_first p f = record { same = refl; shorter = as_many (items p); goes_on = λ new r k. k }

-- A term with its argument is laid, and the other arguments behind it: so are all arguments behind the term.
pub argument_laid : (types terms : List Name) (byte f : ℕ) (p1 p2 p3 p4 new : Parser) (v : Val argument) (x : Node) (n : ℕ)
    → GivenArgument types terms byte f (nodes p1) (nodes p2) v x → p3.tree ≡ p2.tree → n ≡ placed p3 → nodes p4 ≡ nodes p3 ++ x ∷ []
    → (others : Val args) (m : ℕ) → LaidArgs types terms n (nodes p4) (nodes new) others m
    → LaidArgs types terms f (nodes p1) (nodes new) (λ b. others (v byte b)) m
argument_laid types terms byte f p1 p2 p3 p4 new v x n given s e h others m l front b k =
    l front (v byte b)
    (given_term_laid types terms front (nodes p2) (nodes p4) (v byte b) x n (given front b k) (h ∙ ap (λ y. held y ++ x ∷ []) s) (e ∙ ap (λ y. length (held y)) s))
