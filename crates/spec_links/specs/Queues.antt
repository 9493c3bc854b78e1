-- Reads are answered at each port in the order in which they were queued there.
use Rattle.std.specs.Prelude.{◌≤◌, length}
use Rattle.spec_links.specs.Terms.{PortName, Plan, History}
use Rattle.spec_links.specs.Memory.{queued_reads, waiting_reads}
use Rattle.spec_links.specs.Sent.{reads_taken}

-- those that were taken at a port since its link's last reset are the first of those that were queued there since then
abbrev pub TakesFirst : Plan → History → Type 0
TakesFirst plan h = (port : PortName) → reads_taken h port ≤ length (queued_reads plan h port)

-- no more wait than may
abbrev pub FewWait : Plan → History → Type 0
FewWait plan h = (port : PortName) → length (waiting_reads plan h port) ≤ 64
