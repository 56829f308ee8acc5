-- Lookups of files by threads, and what is told of a file.
use Rattle.std.specs.Prelude.{ℕ, ◌+◌, ◌-◌, ◌%◌, ◌^◌, ◌==◌, nat_lt, Bool, true, false, not, ◌&&◌}
use Rattle.std.specs.Prelude.{if◌then◌else◌}
use Rattle.std.specs.Str.{bytes_eq}
use Rattle.std.specs.Prelude.{Option, Some, None, is_some, Result, Ok, Err}
use Rattle.std.specs.declared.alloc.AllocError.{AllocError}
use Rattle.base_text.specs.Bytes.{Text}
use Rattle.dap_launch.specs.declared.file.FileText.{FileText}
use Rattle.dap_launch.specs.declared.file.FileText.TheVariants as file
use Rattle.dap_serve.specs.declared.files.Target.{Target}
use Rattle.dap_serve.specs.declared.files.Found.{Found}
use Rattle.dap_serve.specs.declared.files.Found.TheVariants.{Content, CanonicalPath, Missing, Unreadable}
use Rattle.dap_serve.specs.declared.files.Found.TheVariants.{OutOfMemory}
use Rattle.dap_serve.specs.declared.lookups.Lookup.{Lookup}
use Rattle.dap_serve.specs.declared.lookups.Work.{Work}

abbrev is_at : Text → Option Text → Bool
is_at path None = false
is_at path (Some other) = bytes_eq other path

-- the last lookup is of this file, and hasn't ended
abbrev pub is_last : Text → Work → Bool
is_last path w = is_at path w.path

-- a lookup may begin if fewer than eight go on, each of them has a thread, and the last is of another file
abbrev pub may_begin : Text → Work → Bool
may_begin path w = nat_lt w.count 8 && not (is_some w.asked) && not (is_last path w)

abbrev pub with_asked : Text → Target → Work → Work
with_asked path target w =
    let number : ℕ = (w.number + 1) % 2 ^ 64 in
    if may_begin path w
    then record {
      count = w.count + 1;
      asked = Some (record { path = path; target = target; number = number });
      number = number;
      path = Some path;
      is_awaited = true;
      found = w.found;
    }
    else w

-- a lookup has ended; what it found is dropped unless it was the last one and is awaited
abbrev pub with_found : ℕ → Found → Work → Work
with_found number found w =
    if number == w.number
    then record w { count = w.count - 1; path = None; found = if w.is_awaited then Some found else w.found }
    else record w { count = w.count - 1 }

-- a file that doesn't answer in time can't be read
abbrev pub found_in_time : Option Found → Found
found_in_time (Some found) = found
found_in_time None = Unreadable

abbrev pub content_of : Found → Result FileText AllocError
content_of (Content file) = Ok file
content_of Missing = Ok file.Missing
content_of OutOfMemory = Err (record {})
content_of (CanonicalPath path) = Ok file.Unreadable
content_of Unreadable = Ok file.Unreadable

abbrev pub canonical_of : Found → Result (Option Text) AllocError
canonical_of (CanonicalPath path) = Ok (Some path)
canonical_of OutOfMemory = Err (record {})
canonical_of (Content file) = Ok None
canonical_of Missing = Ok None
canonical_of Unreadable = Ok None
