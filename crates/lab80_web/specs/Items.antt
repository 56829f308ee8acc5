-- What messages ask for.
use Rattle.std.specs.Prelude.{ℕ, [], ◌∷◌, true, Option, Some, None, codes, if◌then◌else◌}
use Rattle.std.specs.Str.{bytes_eq}
use Rattle.base_text.specs.Bytes.{Bytes, Frames}
use Rattle.jup_wire.specs.declared.channel.Channel.{Channel}
use Rattle.jup_wire.specs.declared.channel.Channel.TheVariants.{Shell, Control, Stdin, Iopub}
use Rattle.kern_request.specs.declared.request.Request.{Request}
use Rattle.kern_calls.specs.declared.call.Call.TheVariants as call
use Rattle.lab80_web.specs.declared.answer.Refusal.TheVariants.{NotMessage, NotItem, NoConnection}
use Rattle.lab80_web.specs.declared.items.Item.{Item}
use Rattle.lab80_web.specs.declared.items.Item.TheVariants as item
use Rattle.lab80_web.specs.declared.items.Word.{Word}
use Rattle.lab80_web.specs.declared.items.Word.TheVariants as word
use Rattle.lab80_web.specs.Numbers.{number_in, connection_of}
use Rattle.lab80_web.specs.Opening.{request_in}

abbrev pub word_named : Bytes → Option Word
word_named name =
    if bytes_eq name (codes "join") then Some word.Join else
    if bytes_eq name (codes "leave") then Some word.Leave else
    if bytes_eq name (codes "subscribe") then Some word.Subscribe else
    if bytes_eq name (codes "message") then Some word.Message else
    if bytes_eq name (codes "run") then Some word.Run else None

abbrev pub channel_named : Bytes → Option Channel
channel_named name =
    if bytes_eq name (codes "shell") then Some Shell else
    if bytes_eq name (codes "control") then Some Control else
    if bytes_eq name (codes "stdin") then Some Stdin else
    if bytes_eq name (codes "iopub") then Some Iopub else None

abbrev pub not_item : Item
not_item = item.Refused NotItem

-- ---- by connection

abbrev pub by_connection : Option ℕ → (ℕ → Item) → Item
by_connection None f = item.Refused NoConnection
by_connection (Some connection) f = f connection

-- ---- join: its channel and its identity

abbrev pub join_by : Option Channel → Bytes → Item
join_by None identity = not_item
join_by (Some channel) identity = item.Call (call.Join channel identity)

abbrev pub join_item : Frames → Item
join_item (channel ∷ identity ∷ []) = join_by (channel_named channel) identity
join_item _ = not_item

-- ---- leave: the connection

abbrev pub leave_by : Option ℕ → Item
leave_by None = not_item
leave_by (Some number) =
    by_connection (connection_of number) (λ connection. item.Call (call.Leave connection))

abbrev pub leave_item : Frames → Item
leave_item (connection ∷ []) = leave_by (number_in connection)
leave_item _ = not_item

-- ---- subscribe: the connection, the prefix and the moment

abbrev pub subscription : Bytes → ℕ → ℕ → Item
subscription prefix unix_seconds connection = item.Call
    (call.Subscribe connection (record { wants = true; prefix = prefix; unix_seconds = unix_seconds }))

abbrev pub subscribe_by : Option ℕ → Bytes → Option ℕ → Item
subscribe_by (Some number) prefix (Some unix_seconds) =
    by_connection (connection_of number) (subscription prefix unix_seconds)
subscribe_by _ prefix _ = not_item

abbrev pub subscribe_item : Frames → Item
subscribe_item (connection ∷ prefix ∷ moment ∷ []) =
    subscribe_by (number_in connection) prefix (number_in moment)
subscribe_item _ = not_item

-- ---- message: the channel, the connection, the moment, and the message's own frames

abbrev pub arrival_item : ℕ → ℕ → Option Request → Item
arrival_item connection unix_seconds None = item.Refused NotMessage
arrival_item connection unix_seconds (Some request) =
    item.Call (call.Arrive connection (record { request = request; unix_seconds = unix_seconds }))

abbrev pub message_by : Option Channel → Option ℕ → Option ℕ → Frames → Item
message_by (Some channel) (Some number) (Some unix_seconds) frames =
    by_connection (connection_of number)
    (λ connection. arrival_item connection unix_seconds (request_in channel frames))
message_by _ _ _ frames = not_item

abbrev pub message_item : Frames → Item
message_item (channel ∷ connection ∷ moment ∷ frames) =
    message_by (channel_named channel) (number_in connection) (number_in moment) frames
message_item _ = not_item

-- ---- run: the moment, and the most Slices

abbrev pub run_by : Option ℕ → Option ℕ → Item
run_by (Some unix_seconds) (Some count) = item.Run unix_seconds count
run_by _ _ = not_item

abbrev pub run_item : Frames → Item
run_item (moment ∷ count ∷ []) = run_by (number_in moment) (number_in count)
run_item _ = not_item

-- ---- any item: its word, and then its fields

abbrev pub item_by_word : Option Word → Frames → Item
item_by_word None fields = not_item
item_by_word (Some word.Join) fields = join_item fields
item_by_word (Some word.Leave) fields = leave_item fields
item_by_word (Some word.Subscribe) fields = subscribe_item fields
item_by_word (Some word.Message) fields = message_item fields
item_by_word (Some word.Run) fields = run_item fields

-- what isn't an item is refused
unfoldable pub item_of : Frames → Item
item_of [] = not_item
item_of (word ∷ fields) = item_by_word (word_named word) fields
