-- `setup_read::read` meets its contract. Assumes nothing.
use Rattle.std.proofs.Common.{◌≡◌, ◌∙◌, sym, ap, ℕ, ◌/◌, ◌%◌, eqb, arith}
use Rattle.setup_read.specs.declared.Kind.TheVariants.{Accept}
use Rattle.setup_read.specs.Places.{endpoint_at}
use Rattle.setup_read.proofs.Messages.{is_message, proposal_sizes, read_none, read_proposal, read_accept, read_confirm, read_decline}
use Rattle.setup_read.proofs.read.Goals as goal

pub returns-then-not-is_message : goal.returns-then-not-is_message
returns-then-not-is_message c = c.no_message.ensures ∙ sym (read_none _ (sym c.is_message.ensures ∙ c.if-not-is_message.true))

pub proposal-requires : goal.proposal-requires
proposal-requires c =
    let m = is_message _ (sym c.is_message.ensures ∙ c.if-not-is_message.false) in
    (proposal_sizes _ m.sized (sym c.u8_at.ensures ∙ c.in-1.is)).few

pub returns-in-1 : goal.returns-in-1
returns-in-1 c =
    let m = sym c.is_message.ensures ∙ c.if-not-is_message.false in
    c.proposal.ensures ∙ sym (read_proposal _ m (sym c.u8_at.ensures ∙ c.in-1.is))

pub returns-in-2 : goal.returns-in-2
returns-in-2 c =
    let l = c.args.s.now in
    let m = sym c.is_message.ensures ∙ c.if-not-is_message.false in
    c.endpoint.ensures
    ∙ ap (λ (x : ℕ). endpoint_at Accept (eqb (x / 8 % 2) 1) l) c.u8_at-in-2.ensures
    ∙ sym (read_accept l m (sym c.u8_at.ensures ∙ c.in-2.is))

pub returns-in-3 : goal.returns-in-3
returns-in-3 c =
    let m = sym c.is_message.ensures ∙ c.if-not-is_message.false in
    c.endpoint-in-3.ensures ∙ sym (read_confirm _ m (sym c.u8_at.ensures ∙ c.in-3.is))

pub returns-in_default : goal.returns-in_default
returns-in_default c =
    let m = sym c.is_message.ensures ∙ c.if-not-is_message.false in
    let s = is_message _ m in
    let four : c.u8_at.result ≡ 4 = omega (arith, s.low, s.high, c.u8_at.ensures) in
    c.decline.ensures ∙ sym (read_decline _ m (sym c.u8_at.ensures ∙ four))
