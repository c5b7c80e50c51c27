use Rattle.entries.proofs.PassLaws.{nulls_found, nulls_refused, nulls_further}
use Rattle.entries.proofs.RawLaws.{uleb_onward}
use Rattle.entries.specs.declared.raw.EntriesRaw.{EntriesRaw}
use Rattle.reader.proofs.Accepted.{uleb_ends}
use mathlib.Core.List.{[]}
use mathlib.Core.Path.{ap}
use native.Mathlib.Omega.{arith}
use Rattle.entries.proofs.kept.Kept.pass_nulls.Goals as goal

pub loop-code-smaller : goal.loop-code-smaller
loop-code-smaller c =
    let z = rw (← c.in-Ok.ensures) at (uleb_ends c.args.self.bytes.now c.loop-code.here.raw.position 64) in
    omega (arith, z.above, z.within, ap (λ (u : EntriesRaw). u.position) c.past.ensures)

pub invariant_of-kept : goal.invariant_of-kept
invariant_of-kept c = record { kept = (c.loop-code.invariant [] []).kept }

pub invariant_of-step : goal.invariant_of-step
invariant_of-step c = record { onward = uleb_onward c.args.self.bytes.now c.loop-code.here.raw (c.loop-code.invariant [] []).kept c.in-Ok.ensures }

pub loop-code-preserved : goal.loop-code-preserved
loop-code-preserved c rows specs =
    nulls_further 64 c.args.self.bytes.now rows specs (c.loop-code.invariant rows specs) _ c.if-code-ne0.false c.in-Ok.ensures c.past.ensures c.place.ensures

pub returns-then-code-ne0 : goal.returns-then-code-ne0
returns-then-code-ne0 c rows specs = nulls_found 64 c.args.self.bytes.now rows specs (c.loop-code.invariant rows specs) c.if-code-ne0.true c.in-Ok.ensures

pub returns : goal.returns
returns c rows specs = nulls_refused 64 c.args.self.bytes.now rows specs (c.loop-code.invariant rows specs) c.in_default.ensures
