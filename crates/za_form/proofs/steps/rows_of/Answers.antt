use Rattle.std.proofs.Common.{replicate, arith, subst, sym}
use Rattle.za_expression.specs.Grammar.{IsForm}
use Rattle.za_form.specs.Private.Trees.{form}
use Rattle.za_form.proofs.Sets.{below_form, rows_from, zeros, form_is}
use Rattle.za_form.proofs.steps.rows_of.Goals as goal

pub add_form-requires-clause-within : goal.add_form-requires-clause-within
add_form-requires-clause-within c = below_form c.args.form.now (form c.tree.result.now) c.tree.ensures.is c.tree.ensures.few

pub returns : goal.returns
returns c =
    let few = c.tree.ensures.few in
    let signs = c.args.form.now in
    record {
      rows = rows_from signs (form c.tree.result.now) (replicate 65 0) c.add_form.new.rows c.tree.ensures.is (zeros 65) (omega arith) c.add_form.ensures;
      form = subst (λ f. IsForm 1 signs f) (sym (form_is signs (form c.tree.result.now) c.tree.ensures.is)) c.tree.ensures.is;
    }
