-- A phrase is read step by step up to its semicolon and the end of the source.
use Rattle.std.proofs.Common.{◌≡◌, ℕ, false, List, [], ◌∷◌, Some, Result, Ok, Err, refl, ap, sym, subst, ◌∙◌}
use Rattle.lexer.specs.Coming.{to_come, used}
use Rattle.lexer.specs.Items.{ends}
use Rattle.lexer.specs.declared.name.Name.{Name}
use Rattle.lexer.specs.declared.token.Token.{Token}
use Rattle.lexer.specs.declared.token.Word.{Word}
use Rattle.lexer.specs.declared.token.Word.TheVariants.{LetType, LetTerm, Colon, Judge, Semicolon, End}
use Rattle.lexer.specs.declared.tokens.Tokens.{Tokens}
use Rattle.syntax.specs.Named.{NamedPhrase, of_type, of_term}
use Rattle.syntax.specs.declared.phrase.Phrase.{Phrase}
use Rattle.syntax.specs.declared.phrase.Phrase.TheVariants.{TypePhrase, TermPhrase}
use Rattle.grammar.specs.Grammar.{other}
use Rattle.grammar.specs.Notation.{Kind, phrase, let_type_rest, let_term_rest, judged, type, term, a_name, Val, Mode, on, Guard, the, Given, Sym, one, part, tok, Action, apply, Row, row}
use Rattle.grammar.specs.Derives.{choose, under, from, next_byte}
use Rattle.grammar.specs.Steps.{ReadsPart, Stops, StopsPart, no_token, after_token, after_part}
use Rattle.grammar.specs.declared.fault.SyntaxFault.{SyntaxFault}
use Rattle.grammar.proofs.Steps.{reads_done, reads_token, reads_part, part_reads, part_stops, stops_part}
use Rattle.grammar.proofs.Words.{is_the}
use Rattle.tables.specs.Tables.{held}
use Rattle.parser.specs.Parsing.{items, nodes, placed, limits, Looked, Uses, Refuses, Ended, Parsed, LaidType, LaidTerm, LaidPhrase, ParsedPhrase}
use Rattle.parser.specs.Rows.{Begun, ParsedBody}
use Rattle.parser.specs.declared.parser.Parser.{Parser}
use Rattle.parser.proofs.PhraseNodes.{laid_of_type, laid_of_term}
use Rattle.parser.proofs.Taking.{row_looked, uses_looked, part_own, stops_own}
use Rattle.parser.proofs.Told.{move_reads, move_stops, at_items, stops_at}

begun_row : {ρ : Row phrase} (old : Parser) → choose phrase (items old) ≡ Some ρ → Begun old ρ.symbols ρ.action old
begun_row old e = record { reads = λ h. part_reads e h; stops = λ h. part_stops e h }

begun_token : {old : Parser} (g : Guard) {ss : List Sym} {f : Action (one g ∷ ss) NamedPhrase} (x : Given g) (p p1 : Parser) → Begun old (one g ∷ ss) f p
    → Uses g x (items p) (items p1) → p1.tree ≡ p.tree → Begun old ss (apply g ss NamedPhrase f x) p1
begun_token g x p p1 b u t = record {
  reads = λ h. b.reads (at_items u.1 (reads_token u.2 (move_reads (ap (λ y. limits (record p1 { tree = y })) t) (ap (λ y. placed (record p1 { tree = y })) t) h)));
  stops = λ h. b.stops (stops_at u.1 (after_token u.2 (move_stops (ap (λ y. limits (record p1 { tree = y })) t) (ap (λ y. placed (record p1 { tree = y })) t) h)));
}

begun_part : {old : Parser} {M : Kind} {m : Mode} {ss : List Sym} {f : Val M → Action ss NamedPhrase} {u : Val M} (p p1 : Parser) → Begun old (part m M ∷ ss) f p
    → ReadsPart (limits p) M (under m 0) (placed p) (from m 0 (items p)) (items p) (items p1) (placed p1) u → limits p1 ≡ limits p → Begun old ss (f u) p1
begun_part p p1 b h e = record {
  reads = λ k. b.reads (reads_part h (move_reads e refl k));
  stops = λ k. b.stops (after_part h (move_stops e refl k));
}

-- what stands next may not stand there
pub begun_refused : {old : Parser} {g : Guard} {ss : List Sym} {f : Action (one g ∷ ss) NamedPhrase} {e : SyntaxFault} (p : Parser) → Begun old (one g ∷ ss) f p
    → Refuses g (items p) e → StopsPart (limits old) phrase 0 (placed old) 0 (items old) e
begun_refused p b u = b.stops (stops_at u.2 (no_token u.3 u.4))

-- the first word is used

module _ (old : Parser) (t : Token) (next : Tokens) (h : Looked (items old) (Ok t)) (u : to_come next ≡ used (items old)) where
  abbrev used_first : Parser
  used_first = record { tokens = next; tree = old.tree }

  pub begun_first : {ss : List Sym} {f : Action ss NamedPhrase} (w : Word) → t.word ≡ w → ends w ≡ false
      → ((b : ℕ) → choose phrase (Ok (record { word = w; byte = b }) ∷ []) ≡ Some (row (one (the w) ∷ ss) f)) → Begun old ss f used_first
  begun_first w i e k =
      begun_token (the w) tt old used_first (begun_row old (row_looked w t (items old) h i k)) (uses_looked (the w) tt t (items old) (to_come next) h u (ap ends i ∙ e) (is_the t i)) refl

  pub body_let_type : (p p2 : Parser) (w : Name) (r : Result Phrase SyntaxFault) → t.word ≡ LetType → Uses a_name w (to_come next) (items p2) → p2.tree ≡ old.tree
      → Parsed let_type_rest 0 0 p2 p (λ v x. LaidPhrase (nodes p2) (nodes p) (v w) x) r → limits p ≡ limits p2 → ParsedBody old p r
  body_let_type p p2 w (Ok x) i y e r l = (
    r.0 w,
    subst (λ z. LaidPhrase z (nodes p) (r.0 w) x) (ap held e) r.2,
    begun_part p2 p (begun_token a_name w used_first p2 (begun_first LetType i refl (λ b. refl)) y e) r.1 l,
  )
  body_let_type p p2 w (Err x) i y e r l = (begun_token a_name w used_first p2 (begun_first LetType i refl (λ b. refl)) y e).stops (stops_part r)

  pub body_let_term : (p p2 : Parser) (w : Name) (r : Result Phrase SyntaxFault) → t.word ≡ LetTerm → Uses a_name w (to_come next) (items p2) → p2.tree ≡ old.tree
      → Parsed let_term_rest 0 0 p2 p (λ v x. LaidPhrase (nodes p2) (nodes p) (v w) x) r → limits p ≡ limits p2 → ParsedBody old p r
  body_let_term p p2 w (Ok x) i y e r l = (
    r.0 w,
    subst (λ z. LaidPhrase z (nodes p) (r.0 w) x) (ap held e) r.2,
    begun_part p2 p (begun_token a_name w used_first p2 (begun_first LetTerm i refl (λ b. refl)) y e) r.1 l,
  )
  body_let_term p p2 w (Err x) i y e r l = (begun_token a_name w used_first p2 (begun_first LetTerm i refl (λ b. refl)) y e).stops (stops_part r)

  pub body_judge : (p : Parser) (r : Result Phrase SyntaxFault) → t.word ≡ Judge → Parsed judged 0 0 used_first p (LaidPhrase (nodes old) (nodes p)) r
      → limits p ≡ limits old → ParsedBody old p r
  body_judge p (Ok x) i r l = (r.0, r.2, begun_part used_first p (begun_first Judge i refl (λ b. refl)) r.1 l)
  body_judge p (Err x) i r l = (begun_first Judge i refl (λ b. refl)).stops (stops_part r)

  pub body_of_type : (p : Parser) (n : ℕ) → t.word ≡ Colon → Parsed type 0 (next_byte 0 (to_come next)) used_first p (LaidType [] (nodes old) (nodes p)) (Ok n)
      → limits p ≡ limits old → ParsedBody old p (Ok (TypePhrase n))
  body_of_type p n i r l =
      (of_type r.0, laid_of_type (nodes old) (nodes p) r.0 n r.2, begun_part used_first p (begun_first Colon i refl (λ b. refl)) (part_own 0 r.1) l)

-- no word begins a phrase that is a term

pub body_of_term : (old p : Parser) (n : ℕ) → choose phrase (items old) ≡ other phrase → Parsed term 0 (next_byte 0 (items old)) old p (LaidTerm [] [] (nodes old) (nodes p)) (Ok n)
    → limits p ≡ limits old → ParsedBody old p (Ok (TermPhrase n))
body_of_term old p n e r l = (of_term r.0, laid_of_term (nodes old) (nodes p) r.0 n r.2, begun_part old p (begun_row old e) (part_own 0 r.1) l)

pub no_term : (old : Parser) (e : SyntaxFault) → choose phrase (items old) ≡ other phrase
    → Stops (limits old) 0 (placed old) (next_byte 0 (items old)) (part on term ∷ []) (items old) e → StopsPart (limits old) phrase 0 (placed old) 0 (items old) e
no_term old e i h = part_stops i (stops_own h)

-- the ending

module _ (old p p1 : Parser) (x : Phrase) (b : ParsedBody old p (Ok x)) (u : Uses (the Semicolon) tt (items p) (items p1)) (t : p1.tree ≡ p.tree) where
  semicolon : Begun old (tok End ∷ []) b.0 p1
  semicolon = begun_token (the Semicolon) tt p p1 b.2 u t

  pub no_end : (e : SyntaxFault) → Refuses (the End) (items p1) e → StopsPart (limits old) phrase 0 (placed old) 0 (items old) e
  no_end e r = begun_refused p1 semicolon r

  pub all_read : Ended (items p1) → ParsedPhrase old p1 (Ok x)
  all_read r = (b.0, semicolon.reads (at_items r.1 (reads_token r.2 reads_done)), subst (λ y. LaidPhrase (nodes old) y b.0 x) (sym (ap held t)) b.1)
