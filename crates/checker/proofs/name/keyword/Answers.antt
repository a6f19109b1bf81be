use Rattle.std.proofs.Common.{◌≡◌, ℕ, rules, nat_eq, List, [], ◌∷◌, Some, sym, ap, ◌∙◌, subst, arith}
use Rattle.std.specs.List.{list_any, slice_get, starts_with}
use Rattle.std.proofs.lemmas.Iterator.{YieldsList-from_slice}
use Rattle.std.proofs.lemmas.Iterator.Search.{any_from_yields_List}
use Rattle.std.proofs.lemmas.Option.{none-some}
use Rattle.std.specs.Option.{option_copied}
use borrow.Author.Tests.{tests}
use Rattle.rules.specs.Names.{keywords, spells_one}
use Rattle.checker.proofs.name.keyword.Goals as goal

pub returns : goal.returns
returns c =
    let bs = c.args.bytes.now in
    any_from_yields_List (λ word. starts_with nat_eq bs word.now) _ _ _ c.any.ensures.ran (YieldsList-from_slice _ c.iter.ensures.rest) (λ x b q k. search (rules, tests))
    ∙ go bs (sym c.first.ensures.value ∙ ap option_copied c.in-Some.is)
  where
    go : (bs : List ℕ) → slice_get bs 0 ≡ Some c.in-Some.field-0.now → list_any (λ word. starts_with nat_eq bs word.now) c.keywords.result.now ≡ spells_one keywords bs
    go [] e = absurd (none-some _ e)
    go (b ∷ bs) e =
        subst (λ f. list_any (λ word. starts_with nat_eq (f ∷ bs) word.now) c.keywords.result.now ≡ spells_one keywords (f ∷ bs)) (let same : b ≡ c.in-Some.field-0.now = grind (arith, e) in sym same) (c.keywords.ensures bs)
