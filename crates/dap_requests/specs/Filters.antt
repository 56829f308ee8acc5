-- The filters of ends that an editor sets.
use Rattle.std.specs.Prelude.{false}
use Rattle.dap_requests.specs.declared.request.ExceptionFilters.{ExceptionFilters}

abbrev pub no_filters : ExceptionFilters
no_filters = record { undefined = false; halt = false }
