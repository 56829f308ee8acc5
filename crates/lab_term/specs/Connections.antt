-- The connections over which a cell is run.
use Rattle.base_streams.specs.States.{InletState, OutletState, IsReadable, IsWritable}
use Rattle.lab_term.specs.declared.run_cell.Connection.{Connection}

-- what is read and what is written
pub record Ports : Type 0 where
  pub from : InletState
  pub to : OutletState

-- the connections of shell and iopub, and the outlet that is printed to
pub record Client : Type 0 where
  pub shell : Ports
  pub iopub : Ports
  pub output : OutletState

-- the reader can be read further, and the writer can be written to further
abbrev pub IsGood : Ports → Type 0
IsGood ports = IsReadable ports.from × IsWritable ports.to

abbrev pub IsGoodClient : Client → Type 0
IsGoodClient client = IsGood client.shell × IsGood client.iopub × IsWritable client.output

-- the ports of a connection, as their states are seen
abbrev pub ports_of : {I W : Type 0} → (I → InletState) → (W → OutletState) → Connection I W → Ports
ports_of reads writes c = record { from = reads c.from; to = writes c.to }

abbrev pub client_of : {I W O : Type 0} → (I → InletState) → (W → OutletState) → (O → OutletState)
    → Connection I W → Connection I W → O → Client
client_of reads writes prints shell iopub output = record {
  shell = ports_of reads writes shell;
  iopub = ports_of reads writes iopub;
  output = prints output;
}
