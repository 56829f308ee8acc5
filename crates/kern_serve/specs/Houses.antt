-- What all connections of a server share.
use Rattle.kern_host.specs.Visits.{House}
use Rattle.kern_serve.specs.declared.connection.Shared.{Shared}

abbrev pub house_of : Shared → House
house_of shared = record { key = shared.key; session = shared.session; limit = shared.desk.limit }
