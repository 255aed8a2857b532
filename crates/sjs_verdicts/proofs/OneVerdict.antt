-- Each text has one verdict.
use Rattle.std.proofs.Common.{◌≡◌, ℕ, [], ◌∷◌, ◌++◌, Bool, true, false, Option, Some, None}
use Rattle.std.proofs.Common.{refl, sym, ◌∙◌, ap, inl, inr}
use Rattle.sjs_syntax.specs.Tree.{StmtTrees}
use Rattle.sjs_grammar.specs.Grammar.{Reads}
use Rattle.sjs_grammar.specs.Kinds as k
use Rattle.sjs_grammar.specs.Tokens.{tok, Toks}
use Rattle.sjs_complete.proofs.OneScript.{one_script}
use Rattle.sjs_refusal.specs.Refusal.{IsRefused}
use Rattle.sjs_refusal.proofs.Judged.{Judged, judged, one_refusal, not_both}
use Rattle.sjs_depth.specs.Depth.{too_deep_at}
use Rattle.sjs_verdicts.specs.Verdicts.{Verdict, Script, LeftOut, Unexpected, TooDeep, Holds}

-- a script that is read is deep enough or too deep
of_read : (ts : Toks) (p : StmtTrees) → Reads ts p → (deep : Option ℕ) → too_deep_at p ≡ deep →
    (v : Verdict) × Holds ts v
of_read ts p d None e = (Script p, (d, e))
of_read ts p d (Some at) e = (TooDeep at, (p, d, e))

of_refused : (ts : Toks) (at : ℕ) (out : Bool) → IsRefused ts at out → (v : Verdict) × Holds ts v
of_refused ts at true f = (LeftOut at, f)
of_refused ts at false f = (Unexpected at, f)

of_judged : (ts : Toks) → Judged ts → (v : Verdict) × Holds ts v
of_judged ts (inl r) = of_read ts r.0 r.1 (too_deep_at r.0) refl
of_judged ts (inr f) = of_refused ts f.0 f.1 f.2

pub some_verdict : (ts : Toks) (a : ℕ) (x : Bool) →
    (v : Verdict) × Holds (ts ++ tok a x k.End ∷ []) v
some_verdict ts a x = of_judged (ts ++ tok a x k.End ∷ []) (judged ts a x)

same_depth : (p q : StmtTrees) (some other : Option ℕ) → p ≡ q →
    too_deep_at p ≡ some → too_deep_at q ≡ other → some ≡ other
same_depth p q some other same e f = sym e ∙ ap too_deep_at same ∙ f

pub one_verdict : (ts : Toks) (v w : Verdict) → Holds ts v → Holds ts w → v ≡ w
one_verdict ts (Script p) (Script q) d e = ap Script (one_script ts p q d.0 e.0)
one_verdict ts (Script p) (LeftOut b) d e = absurd (not_both ts p b true d.0 e)
one_verdict ts (Script p) (Unexpected b) d e = absurd (not_both ts p b false d.0 e)
one_verdict ts (Script p) (TooDeep b) d e =
    let none : None ≡ Some b =
    same_depth p e.0 None (Some b) (one_script ts p e.0 d.0 e.1) d.1 e.2 in
    cc
one_verdict ts (LeftOut a) (Script q) d e = absurd (not_both ts q a true e.0 d)
one_verdict ts (LeftOut a) (LeftOut b) d e = ap LeftOut (one_refusal ts a b true true d e).0
one_verdict ts (LeftOut a) (Unexpected b) d e =
    let both : true ≡ false = (one_refusal ts a b true false d e).1 in cc
one_verdict ts (LeftOut a) (TooDeep b) d e = absurd (not_both ts e.0 a true e.1 d)
one_verdict ts (Unexpected a) (Script q) d e = absurd (not_both ts q a false e.0 d)
one_verdict ts (Unexpected a) (LeftOut b) d e =
    let both : false ≡ true = (one_refusal ts a b false true d e).1 in cc
one_verdict ts (Unexpected a) (Unexpected b) d e =
    ap Unexpected (one_refusal ts a b false false d e).0
one_verdict ts (Unexpected a) (TooDeep b) d e = absurd (not_both ts e.0 a false e.1 d)
one_verdict ts (TooDeep a) (Script q) d e =
    let none : Some a ≡ None =
    same_depth d.0 q (Some a) None (one_script ts d.0 q d.1 e.0) d.2 e.1 in
    cc
one_verdict ts (TooDeep a) (LeftOut b) d e = absurd (not_both ts d.0 b true d.1 e)
one_verdict ts (TooDeep a) (Unexpected b) d e = absurd (not_both ts d.0 b false d.1 e)
one_verdict ts (TooDeep a) (TooDeep b) d e =
    let both : Some a ≡ Some b =
    same_depth d.0 e.0 (Some a) (Some b) (one_script ts d.0 e.0 d.1 e.1) d.2 e.2 in
    let same : a ≡ b = cc in
    ap TooDeep same
