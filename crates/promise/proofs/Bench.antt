-- The ten worked examples hold: each side computes to the other. Assumes nothing.
use mathlib.Core.Path.{refl}
use Rattle.promise.proofs.Computed.{computed}
use Rattle.promise.specs.Bench.{Bench, call_each, taken_each, bench_built, compact, lengths_at}

pub bench : Bench
unfolding computed call_each taken_each bench_built compact lengths_at
bench =
    record {
      empty = refl;
      short = refl;
      first = refl;
      second = refl;
      fixed_20 = refl;
      fixed_26 = refl;
      zero_after = refl;
      zeros_after = refl;
      above = refl;
      empty_first = refl;
      at_26 = refl;
      at_25 = refl;
      filled = refl;
      prefix_14 = refl;
      suffix_3 = refl;
      overlong = refl;
      surrogate = refl;
      beyond = refl;
      last = refl;
    }
