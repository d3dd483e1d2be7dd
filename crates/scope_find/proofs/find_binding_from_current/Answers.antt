-- The bindings of the current scope. Assumes nothing.
use Rattle.std.proofs.Common.{sym, ap, arith}
use Rattle.words.specs.Place.{placed}
use Rattle.def_pass.specs.Scope.{find_binding_from_current, is_some}
use Rattle.scope_find.proofs.Out as out
use Rattle.scope_find.proofs.Placed as places
use Rattle.scope_find.proofs.find_binding_from_current.Goals as goal

pub returns-in_err-k : goal.returns-in_err-k
returns-in_err-k c =
    let e = ap (find_binding_from_current c.args.x) (out.none-open c.args.w.now (sym c.in_err-k.ensures)) in
    rw c.from_residual.ensures (record { found = (e, omega arith); own = ap is_some e })

pub found_in-requires : goal.found_in-requires
found_in-requires c = ((c.requires, omega (arith, c.in_ok-k.ensures)), places.placed-current c.args.w.now c.args.x c.in_ok-k.k c.in_ok-k.ensures)

pub returns : goal.returns
returns c =
    let w = c.args.w.now in
    let f = c.found_in.ensures in
    let e = c.in_ok-k.ensures in
    record {
      found = (places.from-current w c.requires c.args.x c.in_ok-k.k e (placed c.found_in.result) f, f.low);
      own = places.own w c.requires c.args.x c.in_ok-k.k e c.found_in.result f;
    }
