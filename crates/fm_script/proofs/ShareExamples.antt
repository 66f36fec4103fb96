-- Shares, computed from their texts.
use Rattle.std.proofs.Common.{◌≡◌, ℕ, List, [], ◌∷◌, codes, Option, Some, None, refl}
use Rattle.serde_json.specs.Read.{read as read_text}
use Rattle.serde_json.proofs.OnLiterals.{serde_json_on_literals}
use Rattle.fm_share.specs.declared.share.Share.{Share}
use Rattle.fm_share.specs.Shares.{whole, writers_of}
use Rattle.fm_script.specs.Json.{bind}
use Rattle.fm_script.specs.ShareJson.{share_in}

-- the share that a text spells
abbrev share_by : List ℕ → Option Share
share_by text = bind (read_text text) share_in

neither_member : share_by (codes "{}") ≡ Some whole
unfolding serde_json_on_literals
neither_member = refl

both_members : share_by (codes "{\"writers\":[3,1],\"each\":2}") ≡ Some (record { writers = Some (writers_of (3 ∷ 1 ∷ [])); each = Some 2 })
unfolding serde_json_on_literals
both_members = refl

in_the_other_order : share_by (codes "{\"each\":2,\"writers\":[1,3]}") ≡ Some (record { writers = Some (writers_of (3 ∷ 1 ∷ [])); each = Some 2 })
unfolding serde_json_on_literals writers_of
in_the_other_order = refl

one_writer : share_by (codes "{\"writers\":[64]}") ≡ Some (record { writers = Some (writers_of (64 ∷ [])); each = None })
unfolding serde_json_on_literals
one_writer = refl

greatest_each : share_by (codes "{\"each\":4294967295}") ≡ Some (record { writers = None; each = Some 4294967295 })
unfolding serde_json_on_literals
greatest_each = refl

each_too_great : share_by (codes "{\"each\":4294967296}") ≡ None
unfolding serde_json_on_literals
each_too_great = refl

each_of_none : share_by (codes "{\"each\":0}") ≡ None
unfolding serde_json_on_literals
each_of_none = refl

each_that_is_no_number : share_by (codes "{\"each\":null}") ≡ None
unfolding serde_json_on_literals
each_that_is_no_number = refl

no_writers : share_by (codes "{\"writers\":[]}") ≡ None
unfolding serde_json_on_literals
no_writers = refl

a_writer_twice : share_by (codes "{\"writers\":[1,2,1]}") ≡ None
unfolding serde_json_on_literals
a_writer_twice = refl

writer_0 : share_by (codes "{\"writers\":[0]}") ≡ None
unfolding serde_json_on_literals
writer_0 = refl

writer_65 : share_by (codes "{\"writers\":[1,65]}") ≡ None
unfolding serde_json_on_literals
writer_65 = refl

writers_that_are_no_list : share_by (codes "{\"writers\":1}") ≡ None
unfolding serde_json_on_literals
writers_that_are_no_list = refl

one_member_more : share_by (codes "{\"each\":2,\"more\":0}") ≡ None
unfolding serde_json_on_literals
one_member_more = refl

one_member_of_another_name : share_by (codes "{\"writer\":[1]}") ≡ None
unfolding serde_json_on_literals
one_member_of_another_name = refl

no_object : share_by (codes "[1]") ≡ None
unfolding serde_json_on_literals
no_object = refl
