-- Digits that encode a packet, and digits that encode none.
use Rattle.std.proofs.Common.{◌≡◌, ℕ, List, Option, Some, None, option_map, Result, Ok, Err, subst, inl, inr}
use Rattle.hex.specs.declared.error.FromHexError.{FromHexError}
use Rattle.hex.specs.Hex.{decode_of}
use Rattle.fm_records.specs.declared.refusal.Refusal.{Refusal}
use Rattle.fm_records.specs.declared.refusal.Refusal.TheVariants.{OutOfMemory, BadPacket}
use Rattle.fm_delta.specs.declared.packet.Packet.{Packet}
use Rattle.fm_wire.specs.Grammar.{fault}
use Rattle.fm_wire.proofs.PacketLaws.{none_where_spelled}
use Rattle.fm_query.specs.Unpacked.{IsPacketIn, IsNoPacketIn, IsFaultOf}

same_bytes : (xs ys : List ℕ) (r : Result (List ℕ) FromHexError) → r ≡ Ok xs → r ≡ Ok ys → xs ≡ ys
same_bytes xs ys r is so = cc

no_digits : (xs : List ℕ) (e : FromHexError) (r : Result (List ℕ) FromHexError) → r ≡ Ok xs → r ≡ Err e → ⊥
no_digits xs e r is so = cc

no_fault : (o : Option ℕ) (e : Refusal) → o ≡ None → option_map BadPacket o ≡ Some e → ⊥
no_fault None e is so = cc
no_fault (Some n) e is so = cc

module _ (digits : List ℕ) (encodes : IsFaultOf digits None) where
  -- there is a packet
  pub encoded : (packet : Packet) × IsPacketIn digits packet
  encoded = let p = encodes.2 in (p.0, record { bytes = encodes.0; decoded = encodes.1; spelled = p.2 })

  -- so it can only be that memory runs out for it
  pub only_memory : (e : Refusal) → IsNoPacketIn digits e → e ≡ OutOfMemory
  only_memory e (inl is) = is
  only_memory e (inr (inl (bad, why, err))) = absurd (no_digits encodes.0 why (decode_of digits) encodes.1 err)
  only_memory e (inr (inr (ys, so, some))) =
      absurd (no_fault (fault ys) e (subst (λ zs. fault zs ≡ None) (same_bytes encodes.0 ys (decode_of digits) encodes.1 so) (none_where_spelled encodes.0 encodes.2)) some)
