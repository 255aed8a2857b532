use Rattle.std.proofs.Common.{◌≡◌, ◌||◌, Bool, true, false, refl}
use Rattle.perm_model.specs.Allowed.{is_free, some_allows, allows}
use Rattle.perm_match.proofs.Grants.{any_more}
use Rattle.perm_match.proofs.laws.fewer_grants_allow_no_more.Goals as goal

free_or : (b some more : Bool) → (some ≡ true → more ≡ true) → (b || some) ≡ true
    → (b || more) ≡ true
free_or true some more then is = refl
free_or false some more then is = then is

pub returns : goal.returns
returns c = λ fewer more wanted among is.
    free_or (is_free wanted) (some_allows fewer.grants wanted) (some_allows more.grants wanted)
    (any_more (λ g. allows g wanted) fewer.grants more.grants among) is
