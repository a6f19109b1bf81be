-- The items that the tokens of a source give are those of a source.
use Rattle.std.proofs.Common.{◌≡◌, Bool, true, false, not, ◌&&◌, List, [], ◌∷◌, Ok, Err, refl, ap, sym, subst, true≢false, ◌∙◌}
use Rattle.lexer.specs.Items.{Item, ends}
use Rattle.lexer.specs.Coming.{is_last, ordinary}
use Rattle.lexer.specs.declared.token.Word.{Word}
use Rattle.lexer.specs.declared.token.Word.TheVariants.{End}
use Rattle.grammar.specs.Reading.{Ended, at_end, at_fault, later}

end_word : (w : Word) → ends w ≡ true → w ≡ End
end_word End e = refl
end_word w e = absurd (true≢false (sym e))

no_end : (w : Word) → not (ends w) ≡ true → w ≡ End → ⊥
no_end w e h = true≢false (sym e ∙ ap (λ w. not (ends w)) h)

first_part : (a b : Bool) → (a && b) ≡ true → (a ≡ true) × (b ≡ true)
first_part true b e = (refl, e)
first_part false b e = absurd (true≢false (sym e))

pub ordinary_ended : (ts : List Item) → ordinary ts ≡ true → Ended ts
ordinary_ended [] e = absurd (true≢false (sym e))
ordinary_ended (Err f ∷ ts) e = at_fault
ordinary_ended (Ok t ∷ []) e = at_end (end_word t.word e)
ordinary_ended (Ok t ∷ u ∷ ts) e =
    let k = first_part (not (ends t.word)) (ordinary (u ∷ ts)) e in
    later (no_end t.word k.0) (ordinary_ended (u ∷ ts) k.1)
