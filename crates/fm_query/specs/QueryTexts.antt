-- The texts that answer queries (this project's profile).
use Rattle.std.specs.Prelude.{◌≡◌, ℕ, List, [], ◌∷◌, ◌++◌, cond, codes, decimal, Option, Some, None, option_map}
use Rattle.hex.specs.Hex.{encode_lower}
use Rattle.fm_records.specs.Table.{Table}
use Rattle.fm_records.specs.Know.{table_of}
use Rattle.fm_know.specs.KnowledgeEquality.{same_table}
use Rattle.fm_delta.specs.declared.packet.Packet.{Packet}
use Rattle.fm_wire.specs.Grammar.{spelling}
use Rattle.fm_net.specs.Net.{Net}
use Rattle.fm_net.specs.Network.{net_of}
use Rattle.fm_flow.specs.Flows.{Units, IsLeast}
use Rattle.fm_dimacs.specs.Solution.{solution_text}
use Rattle.fm_dimacs.specs.Text.{dump_text}
use Rattle.fm_coord.specs.Events.{Sent, Replica}
use Rattle.fm_coord.specs.Replays.{seen_packet}
use Rattle.fm_query.specs.declared.agree.Disagreement.{Disagreement}
use Rattle.fm_query.specs.WinnersText.{winners_text}

-- the network of what a replica took in, its text, and the text of who won
abbrev pub network_of : Replica → Net
network_of r = net_of (table_of r.taken)

abbrev pub graph_of : Replica → List ℕ
graph_of r = dump_text (network_of r)

abbrev pub winners_of : Replica → List ℕ
winners_of r = winners_text (table_of r.taken)

-- the number of the first replica whose operations have another table
abbrev pub first_other : Table → List Replica → Option ℕ
first_other k [] = None
first_other k (r ∷ rs) = cond (same_table k (table_of r.taken)) (first_other k rs) (Some r.number)

-- the first replica, and the first whose operations have another table
abbrev pub difference : List Replica → Option Disagreement
difference [] = None
difference (r ∷ rs) = option_map (λ other. record { first = r.number; other = other }) (first_other (table_of r.taken) rs)

-- that all know the same, or which two do not
abbrev pub agreement_text : Option Disagreement → List ℕ
agreement_text None = codes "same\n"
agreement_text (Some d) = codes "differ " ++ (decimal d.first ++ (codes " " ++ (decimal d.other ++ codes "\n")))

-- the number of the first delta that is kept, and that of the next one
abbrev pub end_text : ℕ → ℕ → List ℕ
end_text floor end = codes "end " ++ (decimal floor ++ (codes " " ++ (decimal end ++ codes "\n")))

-- the version of the program, and the formats of packets that it reads
abbrev pub version_text : List ℕ
version_text = codes "firmament 0.5.0 FDG1 FDG2\n"

-- a packet's bytes in hexadecimal digits, as a line
abbrev pub line_of : Packet → List ℕ
line_of p = encode_lower (spelling p) ++ codes "\n"

abbrev pub packet_line : Sent → List ℕ
packet_line p = line_of (seen_packet p)

-- the text is that of a least flow of the network
pub record IsSolution (net : Net) (text : List ℕ) : Type 0 where
  pub units : Units
  pub least : IsLeast net units
  pub is : text ≡ solution_text net units
