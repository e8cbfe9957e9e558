pub mod FewNames
