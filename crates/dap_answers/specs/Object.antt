-- A JSON object under construction, as its members. It is whole if there was memory for each of them.
use Rattle.std.specs.Prelude.{◌≡◌, IsTrue}
use Rattle.base_text.specs.Bytes.{Text}
use Rattle.serde_json.specs.Data.{Data, Members, object, put}
use Rattle.serde_json.specs.View.{members_view}
use Rattle.dap_answers.specs.declared.object.Object.{Object}

-- in the order of their keys' bytes
abbrev pub members_of : Object → Members
members_of o = members_view o.members.entries

-- if it is whole, it has these members
abbrev pub HasMembers : Object → Members → Type 0
HasMembers o members = IsTrue o.is_whole → members_of o ≡ members

-- if the new one is whole, so was the old one, and the new one has its members and a value at a key
abbrev pub IsWith : Object → Text → Data → Object → Type 0
IsWith old key value new =
    IsTrue new.is_whole → IsTrue old.is_whole × (members_of new ≡ put key value (members_of old))

-- it is whole, and this is the object of its members
abbrev pub IsObject : Object → Data → Type 0
IsObject o value = IsTrue o.is_whole × (value ≡ object (members_of o))
