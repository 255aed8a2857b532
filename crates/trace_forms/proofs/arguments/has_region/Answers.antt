use Rattle.std.proofs.Common.{◌≡◌, ◌∙◌, Option, Some, None, refl, ap, false, true}
use Rattle.std.specs.Prelude.{codes, option_map}
use Rattle.std.specs.Option.{is_some, option_map_or}
use Rattle.gtm_base.proofs.Characters.{chars-ascii}
use Rattle.gtm_data.specs.Paths.{member_of}
use Rattle.gtm_data.specs.Tree.{Tree, tree_of, undefined, null, bool, whole, text, list, object}
use Rattle.gtm_data.specs.Tree.{foreign, callback}
use Rattle.trace_forms.specs.Forms.{has_region}
use Rattle.trace_forms.proofs.arguments.has_region.Goals as goal

told : {A B : Type 0} (f : A → B) (found : Option A) → is_some found ≡ is_some (option_map f found)
told f None = refl
told f (Some x) = refl

is_there : (found : Option Tree) → is_some found ≡ option_map_or (λ t. true) found false
is_there None = refl
is_there (Some t) = refl

region_is : (t : Tree) → is_some (member_of (codes "region") t) ≡ has_region t
region_is undefined = refl
region_is null = refl
region_is (bool b) = refl
region_is (whole number) = refl
region_is (text characters) = refl
region_is (list ts) = refl
region_is (object es) = is_there (member_of (codes "region") (object es))
region_is foreign = refl
region_is (callback number) = refl

pub returns : goal.returns
returns c =
    c.is_some.ensures
    ∙ told (λ found. tree_of found.now) c.member.result
    ∙ ap is_some (rw (chars-ascii (codes "region") refl) at c.member.ensures)
    ∙ region_is (tree_of c.args.value.now)
