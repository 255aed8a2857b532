-- Each row of the table that reads statements and functions keeps a stack one that tokens
-- complete.
use Rattle.std.proofs.Common.{ℕ, List, [], ◌∷◌, Bool, true, false}
use Rattle.sjs_syntax.specs.declared.signs.AssignSign.TheVariants as assign
use Rattle.sjs_syntax.specs.declared.statements.Binding.{Binding}
use Rattle.sjs_syntax.specs.declared.statements.Binding.TheVariants as binding
use Rattle.sjs_grammar.specs.Kinds as k
use Rattle.sjs_grammar.specs.Kinds.{Kind, Lit, word_of, key_of, level, needs_value}
use Rattle.sjs_grammar.specs.Tokens.{tok, Toks}
use Rattle.sjs_table.specs.Notes as note
use Rattle.sjs_table.specs.Notes.{Note, Out}
use Rattle.sjs_table.specs.Runs.{Stack, ◌▹◌, onto}
use Rattle.sjs_table.specs.Symbols as s
use Rattle.sjs_table.specs.Symbols.{Sym, Mode, Mark}
use Rattle.sjs_table.specs.Table as table
use Rattle.sjs_table.specs.Table.{Act, Take, Pass, Stop, act, at_most, then, first}
use Rattle.sjs_refusal.proofs.Good.{finish, BehindStmt, BehindStmts}
use Rattle.sjs_refusal.proofs.ExprKept.{Kept, then_kept, k_expr}

-- a statement may stand where statements do
lone : (ts : Toks) → BehindStmts ts → BehindStmt ts
lone (tok a x k.CloseBrace ∷ ts) h = tt
lone (tok a x k.End ∷ ts) h = tt
lone ts h = absurd h

pub k_body : (t : Kind) (a : ℕ) (b : ℕ) (x : Bool) (st : Stack) → Kept (s.Body a) b x t st
k_body k.OpenBrace a b x st = λ h g. (tt, (tt, (tt, (tt, g))))
k_body t a b x st =
    then_kept (s.Body a) s.Expr (s.Put (note.Arrow a) ∷ []) st (table.expr t b)
    (λ h g. (h, (tt, g))) (k_expr t b x (s.Put (note.Arrow a) ▹ st))

pub k_code : (t : Kind) (n : Note) (b : ℕ) (x : Bool) (st : Stack) → Kept (s.Code n) b x t st
k_code k.OpenRound n b x st = λ h g. (tt, (tt, (tt, (tt, (tt, (tt, (tt, g)))))))
k_code t n b x st = tt

pub k_function : (t : Kind) (a : ℕ) (b : ℕ) (x : Bool) (st : Stack) → Kept (s.Function a) b x t st
k_function (k.Name n) a b x st = λ h g. (tt, (tt, g))
k_function k.OpenRound a b x st = λ h g. (tt, (tt, (tt, (tt, (tt, (tt, (tt, g)))))))
k_function t a b x st = tt

pub k_stmt : (t : Kind) (l : Bool) (b : ℕ) (x : Bool) (st : Stack) → Kept (s.Stmt l) b x t st
k_stmt k.OpenBrace l b x st = λ h g. (tt, (tt, (tt, (tt, g))))
k_stmt k.Semi l b x st = λ h g. (tt, g)
k_stmt (k.Bind d) l b x st = λ h g. (tt, (tt, (tt, (tt, g))))
k_stmt k.Function l b x st = λ h g. (tt, (tt, g))
k_stmt k.If l b x st = λ h g. (tt, (tt, (tt, (h, (h, g)))))
k_stmt k.While l b x st = λ h g. (tt, (tt, (tt, (h, (tt, g)))))
k_stmt k.Do l b x st = λ h g. (tt, (tt, (tt, (tt, (tt, (tt, (tt, g)))))))
k_stmt k.For l b x st = λ h g. (tt, (h, g))
k_stmt k.Break true b x st = λ h g. (tt, (tt, g))
k_stmt k.Break false b x st = tt
k_stmt k.Continue true b x st = λ h g. (tt, (tt, g))
k_stmt k.Continue false b x st = tt
k_stmt k.Return l b x st = λ h g. (tt, g)
k_stmt t l b x st =
    then_kept (s.Stmt l) s.Expr (s.End ∷ s.Put (note.Value b) ∷ []) st (table.expr t b)
    (λ h g. (tt, (tt, (tt, g)))) (k_expr t b x (s.End ▹ s.Put (note.Value b) ▹ st))

pub k_stmts : (t : Kind) (l : Bool) (b : ℕ) (x : Bool) (st : Stack) → Kept (s.Stmts l) b x t st
k_stmts k.CloseBrace l b x st = tt
k_stmts k.End l b x st = tt
k_stmts t l b x st =
    then_kept (s.Stmts l) (s.Stmt l) (s.Put note.Stmt ∷ s.Stmts l ∷ []) st (table.stmt t l b)
    (λ h g. (lone (finish st) h, (tt, (h, g)))) (k_stmt t l b x (s.Put note.Stmt ▹ s.Stmts l ▹ st))

pub k_else : (t : Kind) (l : Bool) (a : ℕ) (b : ℕ) (x : Bool) (st : Stack) →
    Kept (s.Else l a) b x t st
k_else k.Else l a b x st = λ h g. (h, (tt, g))
k_else t l a b x st = tt

pub k_end : (t : Kind) (b : ℕ) (x : Bool) (st : Stack) → Kept s.End b x t st
k_end k.Semi b x st = λ h g. g
k_end k.CloseBrace b x st = tt
k_end k.End b x st = tt
k_end t b true st = tt
k_end t b false st = tt

pub k_return : (t : Kind) (a : ℕ) (b : ℕ) (x : Bool) (st : Stack) → Kept (s.Return a) b x t st
k_return k.Semi a b x st = λ h g. (tt, g)
k_return k.CloseBrace a b x st = tt
k_return k.End a b x st = tt
k_return t a b true st = tt
k_return t a b false st =
    then_kept (s.Return a) s.Expr (s.End ∷ s.Put (note.ReturnValue a) ∷ []) st (table.expr t b)
    (λ h g. (tt, (tt, (tt, g)))) (k_expr t b false (s.End ▹ s.Put (note.ReturnValue a) ▹ st))

pub k_decl : (t : Kind) (d : Binding) (b : ℕ) (x : Bool) (st : Stack) → Kept (s.Decl d) b x t st
k_decl (k.Name n) d b x st = λ h g. (tt, (h, (h, g)))
k_decl t d b x st = tt

pub k_given : (t : Kind) (d : Binding) (b : ℕ) (x : Bool) (st : Stack) → Kept (s.Given d) b x t st
k_given (k.Assign assign.Set) d b x st = λ h g. (h, (tt, g))
k_given t binding.Var b x st = tt
k_given t binding.Let b x st = tt
k_given t binding.Const b x st = tt

pub k_decls : (t : Kind) (d : Binding) (b : ℕ) (x : Bool) (st : Stack) → Kept (s.Decls d) b x t st
k_decls k.Comma d b x st = λ h g. (h, g)
k_decls t d b x st = tt

pub k_init : (t : Kind) (a : ℕ) (b : ℕ) (x : Bool) (st : Stack) → Kept (s.Init a) b x t st
k_init k.Semi a b x st = λ h g. (tt, (tt, (tt, (h, (tt, g)))))
k_init (k.Bind d) a b x st = λ h g. (h, g)
k_init t a b x st =
    then_kept (s.Init a) s.Expr (s.Put note.ValueInit ∷ s.Want s.Semi ∷ table.for_rest a) st
    (table.expr t b) (λ h g. (tt, (tt, (tt, (tt, (tt, (h, (tt, g))))))))
    (k_expr t b x (s.Put note.ValueInit ▹ s.Want s.Semi ▹ onto (table.for_rest a) st))

pub k_for_name : (t : Kind) (a : ℕ) (d : Binding) (b : ℕ) (x : Bool) (st : Stack) →
    Kept (s.ForName a d) b x t st
k_for_name (k.Name n) a d b x st = λ h g. (h, g)
k_for_name t a d b x st = tt

pub k_for_next : (t : Kind) (a : ℕ) (d : Binding) (c : ℕ) (n : List ℕ) (b : ℕ) (x : Bool) (st :
    Stack) → Kept (s.ForNext a d c n) b x t st
k_for_next k.In a d c n b x st = λ h g. (tt, (tt, (tt, (h, (tt, g)))))
k_for_next (k.Assign assign.Set) a d c n b x st = λ h g. (
  tt,
  (
    tt,
    (
      tt,
      (
        tt,
        (
          tt,
          (
            tt,
            (
              tt,
              (
                tt,
                (tt, (h, (tt, g))),
              ),
            ),
          ),
        ),
      ),
    ),
  ),
)
k_for_next k.Comma a binding.Var c n b x st = λ h g. (
  tt,
  (
    tt,
    (
      tt,
      (
        tt,
        (
          tt,
          (
            tt,
            (
              tt,
              (
                tt,
                (
                  h,
                  (tt, g),
                ),
              ),
            ),
          ),
        ),
      ),
    ),
  ),
)
k_for_next k.Comma a binding.Let c n b x st = λ h g. (
  tt,
  (
    tt,
    (
      tt,
      (
        tt,
        (
          tt,
          (
            tt,
            (
              tt,
              (
                tt,
                (
                  h,
                  (tt, g),
                ),
              ),
            ),
          ),
        ),
      ),
    ),
  ),
)
k_for_next k.Comma a binding.Const c n b x st = tt
k_for_next k.Semi a binding.Var c n b x st = λ h g. (tt, (tt, (tt, (tt, (tt, (tt, (h, (tt, g))))))))
k_for_next k.Semi a binding.Let c n b x st = λ h g. (tt, (tt, (tt, (tt, (tt, (tt, (h, (tt, g))))))))
k_for_next k.Semi a binding.Const c n b x st = tt
k_for_next t a d c n b x st = tt

pub k_test : (t : Kind) (b : ℕ) (x : Bool) (st : Stack) → Kept s.Test b x t st
k_test k.Semi b x st = λ h g. (tt, g)
k_test t b x st =
    then_kept s.Test s.Expr (s.Put note.Present ∷ s.Want s.Semi ∷ []) st (table.expr t b)
    (λ h g. (tt, (tt, (tt, g)))) (k_expr t b x (s.Put note.Present ▹ s.Want s.Semi ▹ st))

pub k_last : (t : Kind) (b : ℕ) (x : Bool) (st : Stack) → Kept s.Last b x t st
k_last k.CloseRound b x st = λ h g. (tt, g)
k_last t b x st =
    then_kept s.Last s.Expr (s.Put note.Present ∷ s.Want s.CloseRound ∷ []) st (table.expr t b)
    (λ h g. (tt, (tt, (tt, g)))) (k_expr t b x (s.Put note.Present ▹ s.Want s.CloseRound ▹ st))
