-- What the program knows of its surroundings at one time.
use Rattle.goal_base.specs.Device.{HostState, SinkState, Later, SinkLater}

-- the host with its files, and the standard output
pub record Devices : Type 0 where
  pub host : HostState
  pub out : SinkState

abbrev pub devices : HostState → SinkState → Devices
devices host out = record { host = host; out = out }

-- the same with the standard error
pub record World : Type 0 where
  pub host : HostState
  pub out : SinkState
  pub err : SinkState

abbrev pub world : HostState → SinkState → SinkState → World
world host out err = record { host = host; out = out; err = err }

-- a world without its standard error
abbrev pub without_err : World → Devices
without_err w = devices w.host w.out

pub record WorldLater (old new : World) : Type 0 where
  pub host : Later old.host new.host
  pub out : SinkLater old.out new.out
  pub err : SinkLater old.err new.err
