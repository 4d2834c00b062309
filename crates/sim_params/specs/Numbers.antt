-- The numbers of the parameters.
use Rattle.std.specs.Prelude.{ℕ}
use Rattle.sim_params.specs.declared.params.Params.{Params}
use Rattle.sim_params.specs.Costs.{Numbers}

-- the numbers of the parameters, as contracts see them
abbrev pub numbers : Params → Numbers
numbers p = record {
  latency = p.latency;
  overhead = p.overhead;
  gap = p.gap;
  gap_per_byte = p.gap_per_byte;
  gap_picos = p.gap_picos;
  overhead_per_byte = p.overhead_per_byte;
  overhead_picos = p.overhead_picos;
  sync = p.sync;
}

-- the numbers of a request: L, o, g, G, Gp, O, Op, S
abbrev pub asked : (l o g gb gp ob op s : ℕ) → Numbers
asked l o g gb gp ob op s = record {
  latency = l;
  overhead = o;
  gap = g;
  gap_per_byte = gb;
  gap_picos = gp;
  overhead_per_byte = ob;
  overhead_picos = op;
  sync = s;
}
