use Rattle.std.proofs.Common.{◌∙◌, ◌++◌, ◌∷◌, [], ap, sym, arith, rules, get_or}
use Rattle.std.specs.List.{filter_map}
use Rattle.i80_base.specs.declared.ports.PortOperation.{PortOperation}
use Rattle.i80_base.specs.declared.ports.PortOperation.TheVariants.{In}
use Rattle.i80_devs.specs.Console.{written_to_console as written}
use Rattle.i80_devs.proofs.ConsoleLemmas.{written_more}
use Rattle.i80_devs.proofs.console.print_all.Goals as goal

pub loop-operation-preserved : goal.loop-operation-preserved
loop-operation-preserved c =
    let inv = c.loop-operation.invariant in
    let i = c.loop-operation.operation-index in
    let d : PortOperation = In 0 0 in
    let x : PortOperation = get_or c.args.traffic.now i d in
    record {
      written_so_far =
          c.print.ensures.items ∙ (ap (λ xs. xs ++ filter_map written (x ∷ [])) inv.written_so_far
          ∙ sym (written_more c.args.traffic.now i d c.loop-operation-test.true));
      len = let l = inv.len in let m = c.print.ensures.len in omega arith;
      room = search (rules, inv.room, c.print.ensures.capacity);
    }
