-- The worked scripts that are refused, by the machine.
use Rattle.std.proofs.Common.{[], ◌∷◌, true, false, refl, codes}
use Rattle.sjs_syntax.specs.declared.signs.AssignSign.TheVariants as assign
use Rattle.sjs_syntax.specs.declared.statements.Binding.TheVariants as binding
use Rattle.sjs_grammar.specs.Kinds as k
use Rattle.sjs_grammar.specs.Tokens.{tok}
use Rattle.sjs_refusal.proofs.Judged.{refused_at}
use Rattle.sjs_worked.specs.Refused as refused
use Rattle.sjs_worked.specs.Refused.{AreRefused, ◌&◌, none_refused}

pub are_refused : AreRefused refused.refused
are_refused =
    refused_at [] 0 false (k.OutWord (codes "switch")) (tok 7 false k.OpenRound
    ∷ tok 8 false (k.Number 1) ∷ tok 9 false k.CloseRound ∷ tok 11 false k.OpenBrace
    ∷ tok 12 false k.CloseBrace ∷ tok 13 false k.End ∷ []) _ _ refl refl
    & refused_at (tok 0 false (k.Name (codes "a")) ∷ []) 2 false (k.Name (codes "b")) (tok 3 false
    k.End ∷ []) _ _ refl refl
    & refused_at (tok 0 false k.If ∷ tok 3 false k.OpenRound ∷ tok 4 false (k.Name (codes "a"))
    ∷ tok 5 false k.CloseRound ∷ tok 7 false (k.Name (codes "b"))
    ∷ []) 9 false k.Else (tok 14 false (k.Name (codes "c")) ∷ tok 15 false k.End ∷ []) _ _ refl refl
    & refused_at (tok 0 false (k.Bind binding.Const) ∷ tok 6 false (k.Name (codes "a"))
    ∷ []) 7 false k.Semi (tok 8 false k.End ∷ []) _ _ refl refl
    & refused_at [] 0 false k.Break (tok 5 false k.Semi ∷ tok 6 false k.End ∷ []) _ _ refl refl
    & refused_at (tok 0 false k.While ∷ tok 6 false k.OpenRound
    ∷ tok 7 false (k.Name (codes "a")) ∷ tok 8 false k.CloseRound
    ∷ tok 10 false (k.Name (codes "f")) ∷ tok 11 false k.OpenRound ∷ tok 12 false k.Function
    ∷ tok 21 false k.OpenRound ∷ tok 22 false k.CloseRound ∷ tok 24 false k.OpenBrace
    ∷ []) 26 false k.Break (tok 31 false k.Semi ∷ tok 33 false k.CloseBrace
    ∷ tok 34 false k.CloseRound ∷ tok 35 false k.End ∷ []) _ _ refl refl
    & refused_at (tok 0 false (k.Name (codes "f")) ∷ tok 1 false k.OpenRound
    ∷ tok 2 false k.CloseRound ∷ []) 4 false (k.Assign assign.Set) (tok 6 false (k.Number 1)
    ∷ tok 7 false k.End ∷ []) _ _ refl refl
    & refused_at (tok 0 false (k.Name (codes "a")) ∷ []) 1 false k.Comma (tok 3 false (k.Name
    (codes "b")) ∷ tok 4 false k.End ∷ []) _ _ refl refl
    & refused_at (tok 0 false k.If ∷ tok 3 false k.OpenRound ∷ tok 4 false (k.Name (codes "a"))
    ∷ tok 5 false k.CloseRound ∷ []) 6 false k.End [] _ _ refl refl
    & refused_at (tok 0 false (k.Name (codes "a")) ∷ tok 2 true k.OpenSquare
    ∷ tok 3 false (k.Name (codes "b")) ∷ []) 4 false k.Comma (tok 6 false (k.Name (codes "c"))
    ∷ tok 7 false k.CloseSquare ∷ tok 8 false k.End ∷ []) _ _ refl refl
    & refused_at (tok 0 false k.OpenRound ∷ tok 1 false (k.Name (codes "a"))
    ∷ tok 2 false k.Comma ∷ tok 4 false (k.Name (codes "b")) ∷ tok 5 false k.CloseRound
    ∷ []) 6 false k.End [] _ _ refl refl
    & refused_at (tok 0 false (k.Step true) ∷ tok 2 false (k.Name (codes "a"))
    ∷ tok 4 true k.OpenRound ∷ tok 5 false (k.Name (codes "b")) ∷ tok 6 false k.CloseRound
    ∷ []) 7 false k.End [] _ _ refl refl
    & refused_at (tok 0 false k.For ∷ tok 4 false k.OpenRound
    ∷ tok 5 false (k.Name (codes "a")) ∷ []) 7 false k.In (tok 10 false (k.Name (codes "b"))
    ∷ tok 11 false k.CloseRound ∷ tok 13 false (k.Name (codes "c")) ∷ tok 14 false k.End
    ∷ []) _ _ refl refl
    & none_refused
