-- What was read to its end is the network's text, and one that was not is no network's.
use Rattle.std.proofs.Common.{◌≡◌, ℕ, ◌<◌, [], ◌∷◌, List, drop, length, sym, ap, subst, arith}
use Rattle.std.specs.List.{AllByRecursion}
use Rattle.fm_net.specs.declared.node.Node.{Node}
use Rattle.fm_net.specs.declared.node.Node.TheVariants.{Sink}
use Rattle.fm_net.specs.Nodes.{node_cmp, IsInRange}
use Rattle.fm_records.specs.Rising.{Rises}
use Rattle.fm_dimacs.specs.Syntax.{Comments, Body, Reaches, IsFault}
use Rattle.fm_dimacs.proofs.Verdict.{takes_bytes}
use Rattle.fm_dimacs.proofs.Arcs.{read_sound}
use Rattle.fm_dimacs.proofs.Reader.{fault_behind, fault_passed, only_passed}
use Rattle.fm_dimacs.proofs.Building.{read_first, read_text, only_refused, only_read}
use Rattle.fm_dimacs.proofs.read.read.Goals as goal

pub read_body-requires-clause-room : goal.read_body-requires-clause-room
read_body-requires-clause-room c =
    let room = takes_bytes (length c.in-Ok.nodes.items) (Comments []) (Comments c.in-Ok.nodes.items) c.args.text.now c.in-Ok.rest.now tt c.in-Ok.ensures.ok in
    omega (arith, ap length c.deref.ensures.value)

pub read_body-requires-clause-first : goal.read_body-requires-clause-first
read_body-requires-clause-first c =
    subst (λ (ns : List Node). 0 < length ns → ns ≡ Sink ∷ drop 1 ns) (sym c.deref.ensures.value) (read_first (length c.in-Ok.nodes.items) c.in-Ok.nodes.items c.args.text.now c.in-Ok.rest.now c.in-Ok.ensures.ok)

pub read_body-requires-clause-rise : goal.read_body-requires-clause-rise
read_body-requires-clause-rise c =
    subst (Rises node_cmp) (sym c.deref.ensures.value) (read_sound (length c.in-Ok.nodes.items) c.in-Ok.nodes.items c.args.text.now c.in-Ok.rest.now c.in-Ok.ensures.ok).rise

pub read_body-requires-clause-in_range : goal.read_body-requires-clause-in_range
read_body-requires-clause-in_range c =
    subst (AllByRecursion IsInRange) (sym c.deref.ensures.value) (read_sound (length c.in-Ok.nodes.items) c.in-Ok.nodes.items c.args.text.now c.in-Ok.rest.now c.in-Ok.ensures.ok).in_range

pub returns-in_err-network-in-Ok-clause-only : goal.returns-in_err-network-in-Ok-clause-only
returns-in_err-network-in-Ok-clause-only c = λ net can e.
    let nodes = c.in-Ok.nodes.items in
    let refusal = c.in_err-network-in-Ok.field-0.0 in
    let fault = subst (λ (ns : List Node). IsFault (length ns) (Comments ns) c.in-Ok.rest.now refusal) c.deref.ensures.value c.in_err-network-in-Ok.ensures.err in
    let whole = fault_behind 0 (length nodes) (length nodes) (Comments []) (Comments nodes) c.args.text.now c.in-Ok.rest.now refusal (omega arith) c.in-Ok.ensures.ok fault in
    only_passed c.from_residual.result refusal (λ found. found ≡ net) c.from_residual.ensures.1 (only_refused c.args.text.now refusal (omega arith) whole net can e)

pub returns-in_err-network-in-Ok-clause-broken : goal.returns-in_err-network-in-Ok-clause-broken
returns-in_err-network-in-Ok-clause-broken c =
    let nodes = c.in-Ok.nodes.items in
    let refusal = c.in_err-network-in-Ok.field-0.0 in
    let fault = subst (λ (ns : List Node). IsFault (length ns) (Comments ns) c.in-Ok.rest.now refusal) c.deref.ensures.value c.in_err-network-in-Ok.ensures.err in
    fault_passed c.from_residual.result refusal 0 (Comments []) c.args.text.now c.from_residual.ensures.1
    (fault_behind 0 (length nodes) (length nodes) (Comments []) (Comments nodes) c.args.text.now c.in-Ok.rest.now refusal (omega arith) c.in-Ok.ensures.ok fault)

pub returns-in-Err-clause-only : goal.returns-in-Err-clause-only
returns-in-Err-clause-only c = λ net can e. only_refused c.args.text.now c.in-Err.refusal (omega arith) c.in-Err.ensures.err net can e

pub returns-in_ok-network-in-Ok-clause-found : goal.returns-in_ok-network-in-Ok-clause-found
returns-in_ok-network-in-Ok-clause-found c =
    let nodes = c.in-Ok.nodes.items in
    let net = c.in_ok-network-in-Ok.network in
    let body = subst (λ (ns : List Node). (k : ℕ) × Reaches k (Comments ns) c.in-Ok.rest.now (Body net.nodes [] net.arcs 0) []) c.deref.ensures.value c.in_ok-network-in-Ok.ensures.ok in
    (c.known.ensures, read_text (length nodes) nodes net c.args.text.now c.in-Ok.rest.now c.in-Ok.ensures.ok body)

pub returns-in_ok-network-in-Ok-clause-only : goal.returns-in_ok-network-in-Ok-clause-only
returns-in_ok-network-in-Ok-clause-only c = λ other can e.
    let nodes = c.in-Ok.nodes.items in
    let net = c.in_ok-network-in-Ok.network in
    let body = subst (λ (ns : List Node). (k : ℕ) × Reaches k (Comments ns) c.in-Ok.rest.now (Body net.nodes [] net.arcs 0) []) c.deref.ensures.value c.in_ok-network-in-Ok.ensures.ok in
    let text = read_text (length nodes) nodes net c.args.text.now c.in-Ok.rest.now c.in-Ok.ensures.ok body in
    only_read c.args.text.now net (omega arith) c.known.ensures text other can e
