-- Each row of the table keeps a stack one that tokens complete.
use Rattle.std.proofs.Common.{ℕ, Bool}
use Rattle.sjs_grammar.specs.Kinds.{Kind, word_of}
use Rattle.sjs_table.specs.Runs.{Stack}
use Rattle.sjs_table.specs.Symbols as s
use Rattle.sjs_table.specs.Symbols.{Sym, Mode, Mark}
use Rattle.sjs_refusal.proofs.ExprKept.{Kept, k_want, k_name, k_prim, k_operand, k_expr}
use Rattle.sjs_refusal.proofs.ExprKept.{k_level, k_after, k_tail, k_choose}
use Rattle.sjs_refusal.proofs.ExprKept.{k_after_name, k_open, k_open_name, k_closed}
use Rattle.sjs_refusal.proofs.StmtKept.{k_body, k_code, k_function, k_stmt, k_stmts, k_else}
use Rattle.sjs_refusal.proofs.StmtKept.{k_end, k_return, k_decl, k_given, k_decls, k_init}
use Rattle.sjs_refusal.proofs.StmtKept.{k_for_name, k_for_next, k_test, k_last}
use Rattle.sjs_refusal.proofs.ListKept.{k_names, k_more_names, k_params, k_args, k_more_args}
use Rattle.sjs_refusal.proofs.ListKept.{k_items, k_more_items, k_members, k_more_members}
use Rattle.sjs_refusal.proofs.ListKept.{k_word}

-- every row keeps a stack good
pub kept : (y : Sym) (b : ℕ) (x : Bool) (t : Kind) (st : Stack) → Kept y b x t st
kept (s.Put n) b x t st = tt
kept (s.Want w) b x t st = k_want w t b x st
kept s.Name b x t st = k_name t b x st
kept (s.Stmts l) b x t st = k_stmts t l b x st
kept (s.Stmt l) b x t st = k_stmt t l b x st
kept (s.Else l a) b x t st = k_else t l a b x st
kept s.End b x t st = k_end t b x st
kept (s.Return a) b x t st = k_return t a b x st
kept (s.Decl d) b x t st = k_decl t d b x st
kept (s.Given d) b x t st = k_given t d b x st
kept (s.Decls d) b x t st = k_decls t d b x st
kept (s.Init a) b x t st = k_init t a b x st
kept (s.ForName a d) b x t st = k_for_name t a d b x st
kept (s.ForNext a d c n) b x t st = k_for_next t a d c n b x st
kept s.Test b x t st = k_test t b x st
kept s.Last b x t st = k_last t b x st
kept s.Expr b x t st = k_expr t b x st
kept s.Operand b x t st = k_operand t b x st
kept (s.Level n) b x t st = k_level t n b x st
kept (s.Prim m) b x t st = k_prim t m b x st
kept (s.After m p a) b x t st = k_after t m p a b x st
kept (s.Tail n j a) b x t st = k_tail t n j a b x st
kept (s.Choose a) b x t st = k_choose t a b x st
kept (s.AfterName a n) b x t st = k_after_name t a n b x st
kept (s.Open a) b x t st = k_open t a b x st
kept (s.OpenName a c n) b x t st = k_open_name t a c n b x st
kept (s.Closed a c n) b x t st = k_closed t a c n b x st
kept (s.Body a) b x t st = k_body t a b x st
kept (s.Function a) b x t st = k_function t a b x st
kept (s.Code n) b x t st = k_code t n b x st
kept s.Names b x t st = k_names t b x st
kept s.MoreNames b x t st = k_more_names t b x st
kept s.Params b x t st = k_params t b x st
kept s.Args b x t st = k_args t b x st
kept s.MoreArgs b x t st = k_more_args t b x st
kept s.Items b x t st = k_items t b x st
kept s.MoreItems b x t st = k_more_items t b x st
kept s.Members b x t st = k_members t b x st
kept s.MoreMembers b x t st = k_more_members t b x st
kept (s.Word a) b x t st = k_word (word_of t) a st
