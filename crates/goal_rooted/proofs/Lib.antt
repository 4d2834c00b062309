pub mod RootedCases
