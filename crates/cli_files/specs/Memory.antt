-- Shelves and sinks in memory.
use Rattle.std.specs.Prelude.{ℕ, ◌≡◌, List, Bool, option_map, string_bytes, find, nat_eq, if◌then◌else◌}
use Rattle.std.specs.List.{list_any}
use Rattle.std.specs.Str.{bytes_eq}
use Rattle.cli_files.specs.Outside.{Contents, capped_count}
use Rattle.cli_files.specs.declared.calls.Calls.{Calls}
use Rattle.cli_files.specs.declared.mem_shelf.NamedFile.{NamedFile}
use Rattle.cli_files.specs.declared.mem_shelf.MemShelf.{MemShelf}
use Rattle.cli_files.specs.declared.mem_sink.MemSink.{MemSink}

-- the bytes of the first file of this name
abbrev pub file_contents : List NamedFile → Contents
file_contents files name = option_map (λ f. f.bytes.items) (find (λ f. bytes_eq (string_bytes f.name) name) files)

-- ---- chosen calls fail

-- the next call is among those that fail
abbrev pub fails_now : Calls → Bool
fails_now c = list_any (λ n. nat_eq n c.made) c.failing.items

-- after one more call, which is counted as a fault if it fails
abbrev pub calls_after : Calls → Calls
calls_after c = record c {
  made = capped_count c.made 1;
  faults = if fails_now c then capped_count c.faults 1
      else c.faults;
}

-- no call was made yet, and the listed ones will fail
pub record IsNew (calls : Calls) (listed : List ℕ) : Type 0 where
  pub failing : calls.failing.items ≡ listed
  pub made : calls.made ≡ 0
  pub faults : calls.faults ≡ 0

-- the contents that a shelf in memory tells
abbrev pub contents_of : MemShelf → Contents
contents_of s = file_contents s.files.items

-- its calls
abbrev pub reads_of : MemShelf → Calls
reads_of s = s.calls

-- the calls of a sink in memory
abbrev pub puts_of : MemSink → Calls
puts_of s = s.calls
