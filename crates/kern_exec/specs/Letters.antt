-- Letters and their envelopes (Jupyter messaging, "Request-Reply" and "Messages on the IOPub channel").
use Rattle.std.specs.Prelude.{ℕ, List, [], ◌∷◌, ◌++◌}
use Rattle.base_text.specs.Bytes.{Bytes, Text, Frames}
use Rattle.kern_peers.specs.Connections.{Connections, subscribers}
use Rattle.kern_post.specs.Topics.{topic_of}
use Rattle.kern_post.specs.declared.content.Content.{Content}
use Rattle.kern_post.specs.declared.content.Content.TheVariants.{Status}
use Rattle.kern_post.specs.declared.content.ExecutionState.TheVariants.{Busy, Idle}
use Rattle.kern_post.specs.declared.post.Head.TheVariants.{Topic, Identities}
use Rattle.kern_post.specs.declared.post.Envelope.{Envelope}
use Rattle.kern_post.specs.declared.post.Letter.{Letter}

-- to the connections that have a subscription to the topic when the letter is made
abbrev pub published_under : Connections → Bytes → Text → Envelope
published_under connections parent topic =
    record { to = subscribers topic connections.peers; head = Topic; parent = parent }

abbrev pub publication : Connections → Bytes → Content → Letter
publication connections parent c =
    record { envelope = published_under connections parent (topic_of c); content = c }

-- to one connection, with the identities of a request
abbrev pub reply_envelope : ℕ → Frames → Bytes → Envelope
reply_envelope n identities parent = record { to = n ∷ []; head = Identities identities; parent = parent }

abbrev pub reply_letter : ℕ → Frames → Bytes → Content → Letter
reply_letter n identities parent c = record { envelope = reply_envelope n identities parent; content = c }

-- the letters between busy and idle
abbrev pub between_busy_and_idle : Connections → Bytes → List Letter → List Letter
between_busy_and_idle connections parent letters =
    publication connections parent (Status Busy) ∷
    (letters ++ publication connections parent (Status Idle) ∷ [])
