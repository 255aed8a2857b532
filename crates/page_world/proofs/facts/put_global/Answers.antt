use Rattle.data_layer.proofs.Results.{on_ok}
use Rattle.page_world.specs.Known.{page_of}
use Rattle.page_world.proofs.facts.put_global.Goals as goal

pub returns : goal.returns
returns c =
    on_ok c.set_at.result c.set_at.ensures
    (λ made i.
    record (page_of c.args.page.now) {
      globals =
          made i;
      returns = λ others. c.forget.ensures others i;
    })
