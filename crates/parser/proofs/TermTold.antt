-- What a function promises of the end of a row of terms.
use Rattle.std.proofs.Common.{◌≡◌, ℕ, List, [], ◌∷◌, None, Result, Ok, Err, ap, ◌∙◌, sym, subst}
use Rattle.lexer.specs.Items.{Item}
use Rattle.lexer.specs.declared.name.Name.{Name}
use Rattle.lexer.specs.declared.token.Token.{Token}
use Rattle.lexer.specs.declared.token.Word.{Word}
use Rattle.grammar.specs.Notation.{Kind, Val, term_base, the, taken, Sym, whole, Action}
use Rattle.grammar.specs.declared.fault.SyntaxFault.{SyntaxFault}
use Rattle.syntax.specs.Named.{NamedTerm}
use Rattle.syntax.specs.declared.node.Node.{Node}
use Rattle.tables.specs.Tables.{held}
use Rattle.parser.proofs.TermNodes.{given_term_laid}
use Rattle.parser.proofs.Told.{Told, told, stopped, told_last, Whole}
use Rattle.parser.specs.Parsing.{nodes, limits, LaidTerm, GivenTerm}
use Rattle.parser.specs.Rows.{ParsedRow}
use Rattle.parser.specs.declared.parser.Parser.{Parser}

pub told_symbols : {X : Type 0} (K : Kind) (d q : ℕ) (ss : List Sym) (f : Action ss (Val K)) (old new : Parser) (Laid : Val K → X → Type 0) (r : Result X SyntaxFault)
    → Told K d q ss f old new Laid r → ParsedRow K d q ss f old new Laid r
told_symbols K d q ss f old new Laid (Ok x) (told {v = v} h l) = (v, h, l)
told_symbols K d q ss f old new Laid (Err e) (stopped h) = h

pub symbols_told : {X : Type 0} (K : Kind) (d q : ℕ) (ss : List Sym) (f : Action ss (Val K)) (old new : Parser) (Laid : Val K → X → Type 0) (r : Result X SyntaxFault)
    (first : ℕ) → first ≡ q → ParsedRow K d first ss f old new Laid r → Told K d q ss f old new Laid r
symbols_told K d q ss f old new Laid (Ok x) first i h = subst (λ y. Told K d y ss f old new Laid (Ok x)) i (told h.1 h.2)
symbols_told K d q ss f old new Laid (Err e) first i h = subst (λ y. Told K d y ss f old new Laid (Err e)) i (stopped h)

-- a term whose own node is given is whole, and nothing stands behind it
pub told_term : {d q : ℕ} {v : NamedTerm} (types terms : List Name) (front : List Node) (p p1 new : Parser) (x : Node) (r : Result ℕ SyntaxFault) (first : ℕ) → first ≡ q
    → p1.tree ≡ p.tree → GivenTerm types terms front (nodes p) v x → Whole first x p1 new r → new.tokens ≡ p1.tokens → limits new ≡ limits p1
    → Told term_base d q (whole ∷ []) v p1 new (LaidTerm types terms front (nodes new)) r
told_term {v = v} types terms front p p1 new x r first j s g w t e =
    told_last p1 new r first x j w t e
    (λ n i h. given_term_laid types terms front (nodes p1) (nodes new) v x n (subst (λ y. GivenTerm types terms front y v x) (ap held (sym s)) g) h i)

-- a token that stands there is the one that was looked at

abbrev first_token : Item → Token → Token
first_token (Ok t) s = t
first_token (Err f) s = s

abbrev first_of : List Item → Token → Token
first_of [] s = s
first_of (i ∷ ts) s = first_token i s

pub none_there : (w : Word) (t s : Token) (ts xs ys : List Item) → ts ≡ Ok t ∷ xs → ts ≡ Ok s ∷ ys → taken (the w) s ≡ None → taken (the w) t ≡ None
none_there w t s ts xs ys h k n = subst (λ y. taken (the w) y ≡ None) (ap (λ y. first_of y t) (sym k ∙ h)) n
