-- What the parser's functions promise: what they read off the items, and the nodes that they lay.
use Rattle.std.specs.Prelude.{◌≡◌, ℕ, Bool, false, List, [], ◌∷◌, ◌++◌, length, Some, Result, Ok, Err, if◌then◌else◌}
use Rattle.lexer.specs.Coming.{to_come, used}
use Rattle.lexer.specs.Items.{Item, ends}
use Rattle.lexer.specs.declared.fault.LexicalFault.{LexicalFault}
use Rattle.lexer.specs.declared.name.Name.{Name}
use Rattle.lexer.specs.declared.token.Token.{Token}
use Rattle.lexer.specs.declared.token.Word.{Word}
use Rattle.lexer.specs.declared.token.Word.TheVariants.{End}
use Rattle.grammar.specs.Notation.{Kind, phrase, Val, on, Guard, the, Given, taken, part, same_word}
use Rattle.grammar.specs.Reading.{Limits}
use Rattle.grammar.specs.Steps.{ReadsPart, Stops, Takes, not_allowed}
use Rattle.grammar.specs.declared.fault.SyntaxFault.{SyntaxFault}
use Rattle.grammar.specs.declared.fault.SyntaxFault.TheVariants.{Lexical}
use Rattle.syntax.specs.Layout.{type_nodes, type_node, term_nodes, term_node, env_nodes, binding_nodes, nodes as phrase_nodes, record_of}
use Rattle.syntax.specs.Named.{NamedType, NamedTerm, Binding, NamedPhrase}
use Rattle.syntax.specs.declared.node.Node.{Node}
use Rattle.syntax.specs.declared.phrase.Phrase.{Phrase}
use Rattle.tables.specs.Tables.{held, places}
use Rattle.parser.specs.declared.parser.Parser.{Parser}

-- the items that are still to come
abbrev pub items : Parser → List Item
items p = to_come p.tokens

abbrev pub nodes : Parser → List Node
nodes p = held p.tree

-- how many places of the tree are taken
abbrev pub placed : Parser → ℕ
placed p = length (nodes p)

abbrev pub limits : Parser → Limits
limits p = record { levels = 128; places = places p.tree }

-- what stands next; a token other than the end can be used
abbrev pub Looked : List Item → Result Token SyntaxFault → Type 0
Looked ts (Ok t) = (more : List Item) × (ts ≡ Ok t ∷ more) × (ends t.word ≡ false → used ts ≡ more)
Looked ts (Err e) = (f : LexicalFault) × (more : List Item) × (ts ≡ Err f ∷ more) × (e ≡ Lexical f)

-- whether this word stands next, which is used then
abbrev pub TakesWord : Word → (old new : List Item) → Result Bool SyntaxFault → Type 0
TakesWord w old new (Ok b) = (t : Token) × (more : List Item) × (old ≡ Ok t ∷ more) × (same_word w t.word ≡ b) × (new ≡ (if b then more else old))
TakesWord w old new (Err e) = (f : LexicalFault) × (more : List Item) × (old ≡ Err f ∷ more) × (e ≡ Lexical f)

-- a token that may stand there is used
abbrev pub Uses : (g : Guard) → Given g → (old new : List Item) → Type 0
Uses g x old new = (t : Token) × (old ≡ Ok t ∷ new) × (taken g t ≡ Some x)

-- what stands next may not stand there
abbrev pub Refuses : Guard → (old : List Item) → SyntaxFault → Type 0
Refuses g old e = (i : Item) × (more : List Item) × (old ≡ i ∷ more) × (Takes g i → ⊥) × (not_allowed i ≡ e)

-- A part of kind M is read at depth d and with first byte q, and what is answered is what Laid says of its value; or reading it stops.
abbrev pub Parsed : {X : Type 0} (M : Kind) (d q : ℕ) (old new : Parser) → (Val M → X → Type 0) → Result X SyntaxFault → Type 0
Parsed M d q old new Laid (Ok x) =
    (v : Val M) × ReadsPart (limits old) M d (placed old) q (items old) (items new) (placed new) v × Laid v x
Parsed M d q old new Laid (Err e) = Stops (limits old) d (placed old) q (part on M ∷ []) (items old) e

-- a type's nodes are laid behind those that stood, its own the last, with number n
abbrev pub LaidType : (types : List Name) (old new : List Node) → NamedType → (n : ℕ) → Type 0
LaidType types old new A n = (new ≡ old ++ type_nodes types (length old) A) × (n ≡ type_node (length old) A)

abbrev pub LaidTerm : (types terms : List Name) (old new : List Node) → NamedTerm → (n : ℕ) → Type 0
LaidTerm types terms old new a n = (new ≡ old ++ term_nodes types terms (length old) a) × (n ≡ term_node (length old) a)

-- the same, where the type's own node is given, and not yet laid
abbrev pub GivenType : (types : List Name) (old new : List Node) → NamedType → Node → Type 0
GivenType types old new A x = new ++ x ∷ [] ≡ old ++ type_nodes types (length old) A

abbrev pub GivenTerm : (types terms : List Name) (old new : List Node) → NamedTerm → Node → Type 0
GivenTerm types terms old new a x = new ++ x ∷ [] ≡ old ++ term_nodes types terms (length old) a

-- what stands behind a type whose nodes are laid makes the type v of it
abbrev pub LaidArrow : (types : List Name) (left : ℕ) (old new : List Node) → (NamedType → NamedType) → (n : ℕ) → Type 0
LaidArrow types left old new v n =
    (front : List Node) (A : NamedType) → LaidType types front old A left → LaidType types front new (v A) n

-- what stands behind a term whose nodes are laid makes the term v of it
abbrev pub LaidArgs : (types terms : List Name) (function : ℕ) (old new : List Node) → (NamedTerm → NamedTerm) → (n : ℕ) → Type 0
LaidArgs types terms function old new v n =
    (front : List Node) (b : NamedTerm) → LaidTerm types terms front old b function → LaidTerm types terms front new (v b) n

abbrev pub GivenArgument : (types terms : List Name) (byte function : ℕ) (old new : List Node) → (ℕ → NamedTerm → NamedTerm) → Node → Type 0
GivenArgument types terms byte function old new v x =
    (front : List Node) (b : NamedTerm) → LaidTerm types terms front old b function → GivenTerm types terms front new (v byte b) x

-- the nodes of bindings, and of one whose own node is given and not yet laid
abbrev pub LaidEnv : (old new : List Node) → List Binding → Type 0
LaidEnv old new E = new ≡ old ++ env_nodes (length old) E

abbrev pub GivenBinding : (old new : List Node) → Binding → Node → Type 0
GivenBinding old new b x = new ++ x ∷ [] ≡ old ++ binding_nodes (length old) b

-- a phrase is laid in a tree that had no nodes
abbrev pub LaidPhrase : (old new : List Node) → NamedPhrase → Phrase → Type 0
LaidPhrase old new p x = old ≡ [] → (new ≡ phrase_nodes p) × (x ≡ record_of p)

-- The items are read as a phrase, with nothing left.
abbrev pub ParsedPhrase : (old new : Parser) → Result Phrase SyntaxFault → Type 0
ParsedPhrase old new (Ok x) = (v : NamedPhrase) × ReadsPart (limits old) phrase 0 (placed old) 0 (items old) [] (placed new) v × LaidPhrase (nodes old) (nodes new) v x
ParsedPhrase old new (Err e) = Stops (limits old) 0 (placed old) 0 (part on phrase ∷ []) (items old) e

-- the source ends here
abbrev pub Ended : List Item → Type 0
Ended ts = (t : Token) × (ts ≡ Ok t ∷ []) × (taken (the End) t ≡ Some tt)
