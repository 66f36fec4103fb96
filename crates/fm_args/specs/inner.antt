pub mod ParserOutcomes
