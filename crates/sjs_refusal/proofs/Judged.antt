-- Tokens with the end of the text are read as a script, or refused at one place.
use Rattle.std.proofs.Common.{◌≡◌, ℕ, [], ◌∷◌, ◌++◌, Bool, refl}
use Rattle.std.proofs.Common.{sym, ◌∙◌, ap, subst, append_assoc}
use Rattle.sjs_syntax.specs.Tree.{StmtTrees}
use Rattle.sjs_grammar.specs.Grammar.{Reads}
use Rattle.sjs_grammar.specs.Kinds as k
use Rattle.sjs_grammar.specs.Kinds.{Kind, Lit, word_of, key_of, level, needs_value}
use Rattle.sjs_grammar.specs.Tokens.{Tok, tok, Toks}
use Rattle.sjs_table.specs.Notes.{Out}
use Rattle.sjs_table.specs.Runs.{Stack}
use Rattle.sjs_table.specs.Runs.{start, opened}
use Rattle.sjs_refusal.specs.Refusal.{Begins, IsRefused, Next, Dead, Live, next, bind, behind}
use Rattle.std.proofs.Common.{append-nil, ◌⊎◌, inl, inr}
use Rattle.sjs_grammar.specs.Kinds.{is_left_out}
use Rattle.sjs_refusal.specs.Refusal.{after}
use Rattle.sjs_refusal.proofs.Begins.{begins_so, begins_not, completed, good_after, GoodNext}
use Rattle.sjs_refusal.proofs.Begins.{behind_append}
use Rattle.sjs_refusal.proofs.Good.{Good}
use Rattle.sjs_refusal.proofs.Last.{nothing_left}

-- tokens are read, or refused
abbrev pub Judged : Toks → Type 0
Judged ts =
    ((p : StmtTrees) × Reads ts p) ⊎ ((place : ℕ) × (out : Bool) × IsRefused ts place out)

after_one : (ts : Toks) (b : ℕ) (x : Bool) (t : Kind) (st : Stack) (o : Out) →
    after ts ≡ Live st o → after (ts ++ tok b x t ∷ []) ≡ next b x t st o
after_one ts b x t st o e =
    behind_append ts (tok b x t ∷ []) start opened
    ∙ ap (λ n. bind n (behind (tok b x t ∷ []))) e
    ∙ alone (next b x t st o)
  where
    alone : (n : Next) → bind n (behind []) ≡ n
    alone Dead = refl
    alone (Live w p) = refl

pub refused_at : (ts : Toks) (b : ℕ) (x : Bool) (t : Kind) (rest : Toks) (st : Stack) (o : Out) →
    after ts ≡ Live st o → next b x t st o ≡ Dead →
    IsRefused (ts ++ tok b x t ∷ rest) b (is_left_out t)
refused_at ts b x t rest st o e d =
    record {
      before = ts;
      rest = rest;
      broken = x;
      what = t;
      split = refl;
      begins = begins_so ts st o e;
      refused = begins_not (ts ++ tok b x t ∷ []) (after_one ts b x t st o e ∙ d);
      is = refl;
    }

-- the end of the text is read where the machine gets behind it
read_to : (ts : Toks) (b : ℕ) (x : Bool) (st w : Stack) (o p : Out) →
    after ts ≡ Live st o → next b x k.End st o ≡ Live w p →
    (q : StmtTrees) × Reads (ts ++ tok b x k.End ∷ []) q
read_to ts b x st w o p e d =
    let good : Good st = subst GoodNext e (good_after ts) in
    let c = completed (ts ++ tok b x k.End ∷ []) w p (after_one ts b x k.End st o e ∙ d) in (
      c.0,
      subst (λ us. Reads us c.0)
          (ap (λ us. (ts ++ tok b x k.End ∷ []) ++ us) (nothing_left b x st w o p good d)
          ∙ append-nil (ts ++ tok b x k.End ∷ []))
          c.1,
    )

-- one token more, and those behind it up to the end of the text
judge_end : (ts : Toks) (b : ℕ) (x : Bool) (st : Stack) (o : Out) → after ts ≡ Live st o →
    (n : Next) → next b x k.End st o ≡ n → Judged (ts ++ tok b x k.End ∷ [])
judge_end ts b x st o e Dead d =
    inr (b, is_left_out k.End, refused_at ts b x k.End [] st o e d)
judge_end ts b x st o e (Live w p) d = inl (read_to ts b x st w o p e d)

judge_by : (ts : Toks) (b : ℕ) (x : Bool) (t : Kind) (us : Toks) (st : Stack) (o : Out) →
    after ts ≡ Live st o →
    ((w : Stack) (p : Out) → after (ts ++ tok b x t ∷ []) ≡ Live w p →
    Judged ((ts ++ tok b x t ∷ []) ++ us)) →
    (n : Next) → next b x t st o ≡ n → Judged (ts ++ tok b x t ∷ us)
judge_by ts b x t us st o e ih Dead d =
    inr (b, is_left_out t, refused_at ts b x t us st o e d)
judge_by ts b x t us st o e ih (Live w p) d =
    subst Judged (append_assoc ts (tok b x t ∷ []) us)
    (ih w p (after_one ts b x t st o e ∙ d))

judge : (us ts : Toks) (a : ℕ) (y : Bool) (st : Stack) (o : Out) → after ts ≡ Live st o →
    Judged (ts ++ (us ++ tok a y k.End ∷ []))
judge [] ts a y st o e = judge_end ts a y st o e (next a y k.End st o) refl
judge (tok b x t ∷ us) ts a y st o e =
    judge_by ts b x t (us ++ tok a y k.End ∷ []) st o e
    (λ w p i. judge us (ts ++ tok b x t ∷ []) a y w p i) (next b x t st o) refl

-- tokens up to the end of the text are read, or refused
pub judged : (ts : Toks) (a : ℕ) (y : Bool) → Judged (ts ++ tok a y k.End ∷ [])
judged ts a y = judge ts [] a y start opened refl

-- a front of what a script begins with
front_begins : (ts us : Toks) → Begins (ts ++ us) → Begins ts
front_begins ts us b = (us ++ b.0, b.1, subst (λ vs. Reads vs b.1) (append_assoc ts us b.0) b.2)

-- of two places of refusal, neither comes first
pub same_refusal : (vs ts us : Toks) (t u : Tok) (rest more : Toks) →
    ts ++ t ∷ rest ≡ us ++ u ∷ more →
    (Begins (vs ++ (ts ++ t ∷ [])) → ⊥) → (Begins (vs ++ (us ++ u ∷ [])) → ⊥) →
    Begins (vs ++ ts) → Begins (vs ++ us) → t ≡ u
same_refusal vs [] [] t u rest more e f h b c = cc
same_refusal vs [] (v ∷ us) t u rest more e f h b c =
    let same : t ≡ v = cc in
    absurd (f (subst (λ w. Begins (vs ++ w ∷ [])) (sym same)
    (front_begins (vs ++ v ∷ []) us
    (subst Begins (sym (append_assoc vs (v ∷ []) us)) c))))
same_refusal vs (v ∷ ts) [] t u rest more e f h b c =
    let same : v ≡ u = cc in
    absurd (h (subst (λ w. Begins (vs ++ w ∷ [])) same
    (front_begins (vs ++ v ∷ []) ts
    (subst Begins (sym (append_assoc vs (v ∷ []) ts)) b))))
same_refusal vs (v ∷ ts) (w ∷ us) t u rest more e f h b c =
    let same : w ≡ v = cc in
    let tail : ts ++ t ∷ rest ≡ us ++ u ∷ more = cc in
    let move : (xs : Toks) → vs ++ w ∷ xs ≡ (vs ++ v ∷ []) ++ xs =
    λ xs. ap (λ z. vs ++ z ∷ xs) same ∙ sym (append_assoc vs (v ∷ []) xs) in
    same_refusal (vs ++ v ∷ []) ts us t u rest more tail
    (λ d. f (subst Begins (append_assoc vs (v ∷ []) (ts ++ t ∷ [])) d))
    (λ d. h (subst Begins (sym (move (us ++ u ∷ []))) d))
    (subst Begins (sym (append_assoc vs (v ∷ []) ts)) b)
    (subst Begins (move us) c)

abbrev place_of_tok : Tok → ℕ
place_of_tok (tok a x t) = a

abbrev kind_of_tok : Tok → Kind
kind_of_tok (tok a x t) = t

-- tokens are refused at one place, and in one way
pub one_refusal : (ts : Toks) (a b : ℕ) (x y : Bool) → IsRefused ts a x → IsRefused ts b y →
    (a ≡ b) × (x ≡ y)
one_refusal ts a b x y f h =
    let t : Tok = tok a f.broken f.what in
    let u : Tok = tok b h.broken h.what in
    let same : t ≡ u =
    same_refusal [] f.before h.before t u f.rest h.rest (sym f.split ∙ h.split)
    f.refused h.refused f.begins h.begins in
    (ap place_of_tok same, f.is ∙ ap (λ z. is_left_out (kind_of_tok z)) same ∙ sym h.is)

-- what is read is not refused
pub not_both : (ts : Toks) (p : StmtTrees) (a : ℕ) (x : Bool) → Reads ts p → IsRefused ts a x → ⊥
not_both ts p a x d f =
    f.refused (
      f.rest,
      p,
      subst (λ us. Reads us p)
          (f.split ∙ sym (append_assoc f.before (tok a f.broken f.what ∷ []) f.rest))
          d,
    )
