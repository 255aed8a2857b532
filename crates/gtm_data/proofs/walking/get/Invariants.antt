use Rattle.std.proofs.Common.{◌≡◌, length}
use denote.Text.{Utf8}
use denote.Shadow.{shadow}
use Rattle.std.specs.Str.{chars}
use Rattle.gtm_data.specs.Paths.{walk, dotted}
use Rattle.gtm_data.specs.Tree.{tree_of}
use Rattle.gtm_data.proofs.walking.get.Given as goal

abbrev pub invariant-loop-part : goal.invariant-loop-part
invariant-loop-part l = record {
  text : shadow (Utf8 l.left);
  same : walk (dotted (chars l.left)) (tree_of l.here)
      ≡ walk (dotted (chars l.fn.path)) (tree_of l.fn.root);
}

abbrev pub decreases-loop-part : goal.decreases-loop-part
decreases-loop-part l = length l.left
