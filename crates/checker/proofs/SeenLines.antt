-- A line stands among lines exactly where some number is its own.
use Rattle.std.proofs.Common.{◌≡◌, ℕ, zero, suc, List, ap, ◌∙◌, Some}
use Rattle.lines.specs.Stores.{numbered}
use Rattle.std.proofs.lemmas.Option.{none-some, slice_get-get_or, slice_get_within, get_or_from_slice_get}
use Rattle.std.specs.List.{Contains}

pub numbered_from_Contains : {X : Type 0} (xs : List X) (x : X) → Contains xs x → (n : ℕ) × (numbered xs n ≡ Some x)
numbered_from_Contains xs x (k, h, e) = (suc k, slice_get-get_or xs k x h ∙ ap Some e)

pub Contains-numbered : {X : Type 0} (xs : List X) (x : X) (n : ℕ) → numbered xs n ≡ Some x → Contains xs x
Contains-numbered xs x zero e = absurd (none-some _ e)
Contains-numbered xs x (suc n) e = (n, slice_get_within xs n x e, get_or_from_slice_get xs n x x e)
