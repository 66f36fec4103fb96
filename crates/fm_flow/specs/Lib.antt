pub use Rattle.fm_certificate.specs.Flows
pub use Rattle.fm_certificate.specs.Certificates
pub use Rattle.fm_certificate.specs.Totals
pub use Rattle.fm_certificate.specs.inner.Checks
pub use Rattle.fm_certificate.specs.PolicyNetwork
